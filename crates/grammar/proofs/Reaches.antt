-- Reading a part, in the code's words: one law for each of its returns. `p` is the place where the bytes `s` begin; `q` and `t` are the same of what is left behind
-- what was read.
use mathlib.Core.Path.{◌≡◌, refl, sym, ap, ◌∙◌}
use mathlib.Core.Bool.{true}
use mathlib.Core.List.{List, [], ◌∷◌}
use Prim.Native.Nat.{ℕ, zero, suc, ◌+◌, ◌-◌, ◌≤◌, ◌<◌}
use native.Mathlib.Omega.{arith}
use native.Mathlib.Numerals.{add-one}
use lib.ListN.{length, take, drop, get_or, length-drop, drop_of_length-le}
use lib.Seq.{drop-cons, drop-nil}
use borrow.Author.Tests.{le-leb, lt-leb, ne_eqb}
use Rattle.pkg_length.specs.Refusal.{Answer, gives, refuses, refused}
use Rattle.pkg_length.specs.declared.Raw.{Raw}
use Rattle.grammar.specs.declared.opcode.TermOp.{TermOp}
use Rattle.grammar.specs.declared.opcode.StmtOp.{StmtOp}
use Rattle.grammar.specs.declared.opcode.StmtOp.TheVariants.{Expr}
use Rattle.grammar.specs.Opcode.{term_op_at, stmt_op_at}
use Rattle.grammar.specs.Tree.{Term, Stmt, expr, Stmts, cons}
use Rattle.grammar.specs.Grammar.{depth_limit}
use Rattle.grammar.specs.Reader.{Read, took, reads, then_read, term_by, read_term, read_package, Head, head, read_head, else_by, read_else, stmt_by, list_by, read_stmt, read_list}
use Rattle.grammar.specs.Said.{up_to, read_through}
use Rattle.grammar.specs.Stop.{error_of, stopped}
use Rattle.grammar.specs.declared.stop.Stop.{Stop}
use Rattle.pkg_length.proofs.Answers.{residual_of}
use Rattle.std.specs.Prelude.{Result, IsErr, IsErrAnd}
use Rattle.grammar.proofs.Answers.{Takes}
use Rattle.pkg_length.proofs.Packages.{Packs}
use Rattle.grammar.proofs.Packages.{package-sound}
use Rattle.grammar.proofs.Terms.{term-sound}
use Rattle.grammar.proofs.Statements.{stmt-sound, head-sound, lists-sound}

-- ## What an answer says of the reading

module _ {A : Type 0} where
  pub ans-ok : {X : Type 0} (at : ℕ) (R : Answer (Read A)) (n : ℕ) → gives n ≡ up_to at R → ((a : A) (k : ℕ) → R ≡ reads a k → n ≡ at + k → X) → X
  ans-ok at (gives (took a k)) n e g = g a k refl (cc)
  ans-ok at (refuses c p) n e g = absurd (cc)

  pub ans-no : (at : ℕ) (R : Answer (Read A)) (c p : ℕ) → refuses c p ≡ up_to at R → R ≡ refuses c p
  ans-no at (gives (took a k)) c p e = absurd (cc)
  ans-no at (refuses n m) c p e = let x : n ≡ c = cc in let y : m ≡ p = cc in rw (x, y)

-- what only goes on with what was read
pub after : {A B : Type 0} (at : ℕ) (R : Answer (Read A)) (f : A → B) (j : ℕ) → up_to at (then_read R (λ a k. reads (f a) (j + k))) ≡ up_to (at + j) R
after at (gives (took a k)) f j = ap gives (omega arith)
after at (refuses n p) f j = refl

pub after_one : {A B : Type 0} (at : ℕ) (R : Answer (Read A)) (f : A → B) → up_to at (then_read R (λ a k. reads (f a) (suc k))) ≡ up_to (at + 1) R
after_one at (gives (took a k)) f = ap gives (omega arith)
after_one at (refuses n p) f = refl

pub same-reach : {A B : Type 0} (at : ℕ) (R : Answer (Read A)) (f : A → B) → up_to at (then_read R (λ a k. reads (f a) k)) ≡ up_to at R
same-reach at (gives (took a k)) f = refl
same-reach at (refuses n p) f = refl

-- the end alone counts
pub through : {A B : Type 0} (R : Answer (Read A)) (f : A → B) (j : ℕ) → read_through (then_read R (λ a k. reads (f a) (j + k))) ≡ read_through R
through (gives (took a k)) f j = refl
through (refuses n p) f j = refl

-- the same of what is read to the end
module _ {A : Type 0} where
  pub through-ok : {X : Type 0} (R : Answer (Read A)) (u : Unit {0}) → gives u ≡ read_through R → ((a : A) (k : ℕ) → R ≡ reads a k → X) → X
  through-ok (gives (took a k)) u e g = g a k refl
  through-ok (refuses c p) u e g = absurd (cc)

  pub through-no : (R : Answer (Read A)) (c p : ℕ) → refuses c p ≡ read_through R → R ≡ refuses c p
  through-no (gives (took a k)) c p e = absurd (cc)
  through-no (refuses n m) c p e = let x : n ≡ c = cc in let y : m ≡ p = cc in rw (x, y)

-- what `?` hands on is the refusal that it met
pub residual : {A : Type 0} (r : Result A Stop) (s : Stop) → IsErr r × IsErrAnd r (λ x. x ≡ s) → stopped r ≡ refused (error_of s.0)
residual r s h = residual_of (λ q. stopped q ≡ refused (error_of s.0)) r s h refl

-- a refusal stands, whatever follows
pub stops : {A B : Type 0} (p : ℕ) (R : Answer (Read A)) (f : A → ℕ → Answer (Read B)) (c n : ℕ) → refuses c n ≡ up_to p R → refuses c n ≡ up_to p (then_read R f)
stops p (gives (took a k)) f c n e = absurd (cc)
stops p (refuses m q) f c n e = e

-- reading goes on behind what was read
pub goes_on : {A B C : Type 0} (p m q : ℕ) (s t : List ℕ) (R : Answer (Read A)) (next : ℕ → List ℕ → Answer (Read B)) (g : A → B → C) (a : Answer ℕ) →
    gives m ≡ up_to p R → q ≡ m → t ≡ drop (m - p) s → a ≡ up_to q (next q t) →
    a ≡ up_to p (then_read R (λ x k. then_read (next (p + k) (drop k s)) (λ y j. reads (g x y) (k + j))))
goes_on p m q s t (gives (took x k)) next g a e eq et f =
    let h : m ≡ p + k = cc in
    let z : m - p ≡ k = omega arith in
    let eq₁ : q ≡ p + k = eq ∙ h in
    let et₁ : t ≡ drop k s = et ∙ ap (λ (i : ℕ). drop i s) z in
    (rw (eq₁, et₁) at f) ∙ sym (after p (next (p + k) (drop k s)) (g x) k)
goes_on p m q s t (refuses c n) next g a e eq et f = absurd (cc)

-- from the next byte on
pub next_one : {A B : Type 0} (reader : ℕ → List ℕ → Answer (Read A)) (f : A → B) (p q : ℕ) (s t : List ℕ) (a : Answer ℕ) →
    q ≡ p + 1 → t ≡ s → a ≡ up_to q (reader q t) → a ≡ up_to p (then_read (reader (suc p) s) (λ x k. reads (f x) (suc k)))
next_one reader f p q s t a eq et e =
    let h : q ≡ suc p = omega arith in
    let z : p + 1 ≡ suc p = omega arith in
    (rw (h, et) at e) ∙ sym (after_one p (reader (suc p) s) f ∙ ap (λ (i : ℕ). up_to i (reader (suc p) s)) z)

-- the bytes from a place within a part
pub here : (s : List ℕ) (at : ℕ) → at < length s → drop at s ≡ get_or s at 0 ∷ drop (at + 1) s
here s at h = rw (add-one, drop-cons s at 0 h)

-- ## Terms

-- by what the byte is
pub term-is-by : (l p at : ℕ) (s : List ℕ) (r o : TermOp) → 0 < l → at < length s → r ≡ term_op_at (get_or s at 0) → r ≡ o →
    read_term l p (drop at s) ≡ term_by (read_term (l - 1)) p (drop (at + 1) s) o
unfolding read_term
term-is-by l p at s r o h lt e f = go l h
  where
    go : (l : ℕ) → 0 < l → read_term l p (drop at s) ≡ term_by (read_term (l - 1)) p (drop (at + 1) s) o
    go zero h = absurd (omega arith)
    go (suc l) h = let q : suc l - 1 ≡ l = omega arith in rw (here s at lt, ← e, f, q)

pub term-arm : (l p : ℕ) (s : List ℕ) → 0 < l → 0 < length s → (r o : TermOp) → r ≡ term_op_at (get_or s 0 0) → r ≡ o → (a : Answer ℕ) →
    a ≡ up_to p (term_by (read_term (l - 1)) p (drop 1 s) o) → a ≡ up_to p (read_term l p s)
term-arm l p s h lt r o e f a g = g ∙ sym (ap (up_to p) (term-is-by l p 0 s r o h lt e f))

-- a reading went on
pub term_in : (l p : ℕ) (s : List ℕ) (b : ℕ) → gives b ≡ up_to p (read_term l p s) → (p < b) × (b ≤ p + length s)
term_in l p s b e =
    ans-ok p (read_term l p s) b e λ x k g q.
    let z : Takes _ s k = term-sound l p s x k g in
    let z₁ : 0 < k = z.some in
    let z₂ : k ≤ length s = z.fits in
    (omega arith, omega arith)

-- ## Lists

pub skip-to : (st : ℕ → List ℕ → Answer (Read Stmt)) (n p : ℕ) (s : List ℕ) → list_by st n p s ≡ list_by st 0 (p + n) (drop n s)
unfolding list_by
skip-to st n p [] = rw (drop-nil {A = ℕ} n)
skip-to st zero p (b ∷ s) = let e : p ≡ p + 0 = omega arith in ap (λ (q : ℕ). list_by st 0 q (b ∷ s)) e
skip-to st (suc n) p (b ∷ s) =
    let e : suc p + n ≡ p + suc n = omega arith in
    skip-to st n (suc p) s ∙ ap (λ (q : ℕ). list_by st 0 q (drop n s)) e

pub list-eq : (st : ℕ → List ℕ → Answer (Read Stmt)) (p k : ℕ) (s : List ℕ) (x : Stmt) → 0 < k → 0 < length s → st p s ≡ reads x k →
    list_by st 0 p s ≡ then_read (list_by st 0 (p + k) (drop k s)) (λ xs j. reads (cons x xs) (k + j))
unfolding list_by
list-eq st p k [] x hk hs e = absurd (omega arith)
list-eq st p zero (b ∷ s) x hk hs e = absurd (omega arith)
list-eq st p (suc k) (b ∷ s) x hk hs e =
    let q : suc k - 1 ≡ k = omega arith in
    let r : suc p + k ≡ p + suc k = omega arith in
    rw (e, q, skip-to st k (suc p) s, r)

pub stmt_in : (l p : ℕ) (s : List ℕ) (n : ℕ) → gives n ≡ up_to p (read_stmt l p s) → (p < n) × (n ≤ p + length s)
stmt_in l p s n e =
    ans-ok p (read_stmt l p s) n e λ x k g q.
    let z : Takes _ s k = stmt-sound l p s x k g in
    let z₁ : 0 < k = z.some in
    let z₂ : k ≤ length s = z.fits in
    (omega arith, omega arith)

module _ (l p : ℕ) (s : List ℕ) (some : 0 < length s) where
  pub list_more : (n : ℕ) → gives n ≡ up_to p (read_stmt l p s) → read_through (read_list l p s) ≡ read_through (read_list l n (drop (n - p) s))
  list_more n e =
      ans-ok p (read_stmt l p s) n e λ x k g h.
      let t : Takes _ s k = stmt-sound l p s x k g in
      let t₁ : 0 < k = t.some in
      let z : n - p ≡ k = omega arith in
      ap read_through (list-eq (read_stmt l) p k s x t₁ some g) ∙ through (read_list l (p + k) (drop k s)) (cons x) k ∙ rw (z, h)

  pub list_stop : (c n : ℕ) → refuses c n ≡ up_to p (read_stmt l p s) → refuses c n ≡ read_through (read_list l p s)
  unfolding list_by
  list_stop c n e = go s some (ans-no p (read_stmt l p s) c n e)
    where
      go : (s : List ℕ) → 0 < length s → read_stmt l p s ≡ refuses c n → refuses c n ≡ read_through (read_list l p s)
      go [] h f = absurd (omega arith)
      go (b ∷ s) h f = rw f

pub list_end : (l p : ℕ) (s : List ℕ) → length s ≤ 0 → ◌≡◌ {A = Answer (Unit {0})} (gives tt) (read_through (read_list l p s))
unfolding list_by
list_end l p [] h = refl
list_end l p (b ∷ s) h = absurd (omega arith)

-- ## A statement

pub stmt-is-by : (l p at : ℕ) (s : List ℕ) (r o : StmtOp) → 0 < l → at < length s → r ≡ stmt_op_at (get_or s at 0) → r ≡ o →
    read_stmt l p (drop at s) ≡ stmt_by (read_list (l - 1)) (get_or s at 0) p (drop (at + 1) s) o
unfolding read_stmt
stmt-is-by l p at s r o h lt e f = go l h
  where
    go : (l : ℕ) → 0 < l → read_stmt l p (drop at s) ≡ stmt_by (read_list (l - 1)) (get_or s at 0) p (drop (at + 1) s) o
    go zero h = absurd (omega arith)
    go (suc l) h = let q : suc l - 1 ≡ l = omega arith in rw (here s at lt, ← e, f, q)

pub stmt-arm : (l p : ℕ) (s : List ℕ) → 0 < l → 0 < length s → (r o : StmtOp) → r ≡ stmt_op_at (get_or s 0 0) → r ≡ o → (a : Answer ℕ) →
    a ≡ up_to p (stmt_by (read_list (l - 1)) (get_or s 0 0) p (drop 1 s) o) → a ≡ up_to p (read_stmt l p s)
stmt-arm l p s h lt r o e f a g = g ∙ sym (ap (up_to p) (stmt-is-by l p 0 s r o h lt e f))

-- an expression starts with its own opcode
pub expr-here : (p : ℕ) (s : List ℕ) → 0 < length s → (list : ℕ → List ℕ → Answer (Read Stmts)) (a : Answer ℕ) → a ≡ up_to p (read_term depth_limit p s) →
    a ≡ up_to p (stmt_by list (get_or s 0 0) p (drop 1 s) Expr)
expr-here p [] h list a e = absurd (omega arith)
expr-here p (b ∷ s) h list a e = e ∙ sym (same-reach p (read_term depth_limit p (b ∷ s)) expr)

-- ## Packages and bodies

pub package-in : (p at : ℕ) (s : List ℕ) (n u : ℕ) → gives (record { raw = n; used = u }) ≡ read_package p (drop at s) → at ≤ length s →
    (0 < u) × (u ≤ n) × (at + n ≤ length s)
package-in p at s n u e h =
    let k : Packs (drop at s) (record { raw = n; used = u }) = package-sound p (drop at s) _ (sym e) in
    (k.holds, k.own_in, omega (arith, k.within, length-drop at s))

pub package_within : (p : ℕ) (s : List ℕ) (w : Raw) → gives w ≡ read_package p s → (0 < w.used) × (w.used ≤ w.raw) × (w.raw ≤ length s)
package_within p s w e = let k : Packs s w = package-sound p s w (sym e) in (k.holds, k.own_in, k.within)

module _ (l p : ℕ) (s : List ℕ) where
  abbrev read-head : Answer (Read Head)
  read-head = read_head (read_list l) p s

  pub head_no_package : (c n : ℕ) → refuses c n ≡ read_package p s → refuses c n ≡ up_to p read-head
  unfolding read_head
  head_no_package c n e = rw (← e)

  -- the predicate is read from q on
  module _ (w : Raw) (ew : gives w ≡ read_package p s) (q : ℕ) (t : List ℕ) (eq : q ≡ p + w.used) (et : t ≡ drop (p + w.used - p) s) where
    left_is : drop w.used s ≡ t
    left_is = let h : w.used ≡ p + w.used - p = omega arith in ap (λ (i : ℕ). drop i s) h ∙ sym et

    pub head-no-term : (c n : ℕ) → refuses c n ≡ up_to q (read_term depth_limit q t) → refuses c n ≡ up_to p read-head
    unfolding read_head
    head-no-term c n e =
        let g : read_term depth_limit q t ≡ refuses c n = ans-no q (read_term depth_limit q t) c n e in
        rw (← ew, ← eq, left_is, g)

    module _ (m : ℕ) (em : gives m ≡ up_to q (read_term depth_limit q t)) where
      pub head-short : p + w.raw < m → refuses 31 (p + w.raw) ≡ up_to p read-head
      unfolding read_head
      head-short lt =
          ans-ok q (read_term depth_limit q t) m em λ x k g h.
          rw (← ew, ← eq, left_is, g, lt-leb (w.used + k) w.raw (omega arith))

      -- the body is the part from m to the package's end
      module _ (le : m ≤ p + w.raw) (b : ℕ) (v : List ℕ) (eb : b ≡ m) (ev : v ≡ take (p + w.raw - m) (drop (m - p) s)) where
        from-body : (a : Answer ℕ) → ((x : Term) → a ≡ up_to p (then_read (read_list l b v) (λ xs _. reads (head x xs) w.raw))) → a ≡ up_to p read-head
        unfolding read_head
        from-body a f =
            ans-ok q (read_term depth_limit q t) m em λ x k g h.
            let q₁ : p + (w.used + k) ≡ b = omega arith in
            let q₂ : w.raw - (w.used + k) ≡ p + w.raw - m = omega arith in
            let q₃ : w.used + k ≡ m - p = omega arith in
            let q₄ : take (w.raw - (w.used + k)) (drop (w.used + k) s) ≡ v = rw (q₂, q₃) (sym ev) in
            rw (← ew, ← eq, left_is, g, le-leb (w.used + k) w.raw (omega arith), q₁, q₄) (f x)

        pub head-no-body : (c n : ℕ) → refuses c n ≡ read_through (read_list l b v) → refuses c n ≡ up_to p read-head
        head-no-body c n e = let g = through-no (read_list l b v) c n e in from-body (refuses c n) (λ x. rw g)

        pub head-body : (u : Unit {0}) → gives u ≡ read_through (read_list l b v) → gives (p + w.raw) ≡ up_to p read-head
        head-body u e = through-ok (read_list l b v) u e λ xs i g. from-body (gives (p + w.raw)) (λ x. rw g)

  pub head_in : (e : ℕ) → gives e ≡ up_to p read-head → (p < e) × (e ≤ p + length s)
  head_in e f =
      ans-ok p read-head e f λ x k g q.
      let z : Takes _ s k = head-sound (read_list l) l (lists-sound l) p s x k g in
      let z₁ : 0 < k = z.some in
      let z₂ : k ≤ length s = z.fits in
      (omega arith, omega arith)

-- ## An else

module _ (l p at : ℕ) (s : List ℕ) where
  pub else-end : length s ≤ at → gives at ≡ up_to at (read_else (read_list l) p (drop at s))
  unfolding read_else
  else-end h = rw (drop_of_length-le s h) (ap gives (omega arith))

  pub else-other : at < length s → (get_or s at 0 ≡ 0xA1 → ⊥) → gives at ≡ up_to at (read_else (read_list l) p (drop at s))
  unfolding read_else
  else-other h ne = rw (here s at h, ne_eqb (get_or s at 0) 0xA1 ne) (ap gives (omega arith))

module _ (l p : ℕ) (s : List ℕ) where
  -- the package is read from q on
  module _ (some : 0 < length s) (eq : get_or s 0 0 ≡ 0xA1) (q : ℕ) (t : List ℕ) (eq₁ : q ≡ p + 1) (et : t ≡ drop 1 s) where
    else-is : read_else (read_list l) p s ≡ else_by (read_list l) q t true
    unfolding read_else
    else-is = go s some eq et
      where
        go : (s : List ℕ) → 0 < length s → get_or s 0 0 ≡ 0xA1 → t ≡ drop 1 s → read_else (read_list l) p s ≡ else_by (read_list l) q t true
        go [] h f g = absurd (omega arith)
        go (b ∷ s) h f g = let q₁ : q ≡ suc p = omega arith in rw (f, q₁, g)

    pub else_no_package : (c n : ℕ) → refuses c n ≡ read_package q t → refuses c n ≡ up_to p (read_else (read_list l) p s)
    else_no_package c n e = rw (else-is, ← e)

    module _ (w : Raw) (ew : gives w ≡ read_package q t) (b : ℕ) (v : List ℕ) (eb : b ≡ q + w.used) (ev : v ≡ take (q + w.raw - (q + w.used)) (drop (q + w.used - q) t)) where
      same_body : read_list l (q + w.used) (take (w.raw - w.used) (drop w.used t)) ≡ read_list l b v
      same_body =
          let h : w.raw - w.used ≡ q + w.raw - (q + w.used) = omega arith in
          let i : q + w.used - q ≡ w.used = omega arith in
          let e : take (w.raw - w.used) (drop w.used t) ≡ v = rw h (rw i at (sym ev)) in
          rw (e, ← eb)

      pub else-no-body : (c n : ℕ) → refuses c n ≡ read_through (read_list l b v) → refuses c n ≡ up_to p (read_else (read_list l) p s)
      else-no-body c n e =
          let g = through-no (read_list l b v) c n e in
          rw (else-is, ← ew, same_body, g)

      pub else-body : (u : Unit {0}) → gives u ≡ read_through (read_list l b v) → gives (q + w.raw) ≡ up_to p (read_else (read_list l) p s)
      else-body u e =
          through-ok (read_list l b v) u e λ xs i g.
          rw (else-is, ← ew, same_body, g) (ap gives (omega arith))
