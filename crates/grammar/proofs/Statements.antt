-- A statement list is read where, and only where, the grammar derives it: by induction on the depths left.
use mathlib.Core.Path.{◌≡◌, refl, sym, ap, subst, ◌∙◌}
use mathlib.Core.Bool.{Bool, true, false}
use mathlib.Core.List.{List, [], ◌∷◌, ◌++◌, append_assoc}
use Prim.Native.Nat.{ℕ, zero, suc, ◌+◌, ◌-◌, ◌≤◌, ◌<◌}
use native.Mathlib.Omega.{arith}
use lib.Dec.{leb, eqb}
use lib.ListN.{length, take, drop, length-append, length-drop, take-append-drop}
use lib.Seq.{drop-drop, take-add, drop-append_seam, take-append_seam}
use borrow.Author.Tests.{eqb-true, leb-true, le-leb}
use Rattle.pkg_length.specs.Refusal.{Answer, gives}
use Rattle.pkg_length.specs.declared.Raw.{Raw}
use Rattle.grammar.specs.declared.opcode.StmtOp.{StmtOp}
use Rattle.grammar.specs.declared.opcode.StmtOp.TheVariants.{Simple, Return, If, While, Expr, BadStmt}
use Rattle.grammar.specs.Opcode.{term_op_at, stmt_op_at, look}
use Rattle.grammar.specs.Tree.{Term, Stmt, if_else, expr, Stmts, nil, cons}
use Rattle.grammar.specs.Grammar.{depth_limit, DTerm, DStmt, d-plain, d-return, d-if, d-while, d-expr, DHead, d-head, DElse, d-none, d-else, DStmts, d-nil, d-cons}
use Rattle.grammar.specs.Reader.{Read, reads, read_term, read_package, Head, head, if_of, while_of, read_head, else_by, read_else, read_if, stmt_by, list_by, read_stmt, read_list}
use Rattle.pkg_length.proofs.Answers.{refuses-not}
use Rattle.grammar.proofs.Answers.{then_by, and-by, pick-ok, Follows, Takes, as-follows, as-takes}
use Rattle.pkg_length.proofs.Packages.{Packs}
use Rattle.pkg_length.specs.Package.{Package}
use Rattle.grammar.proofs.Packages.{package-sound, package-complete}
use Rattle.grammar.proofs.Terms.{term-sound, term-complete}

-- ## Sound

abbrev pub StmtSound : (ℕ → List ℕ → Answer (Read Stmt)) → ℕ → Type 0
StmtSound st l = (p : ℕ) (s : List ℕ) (x : Stmt) (k : ℕ) → st p s ≡ reads x k → Takes (DStmt l x) s k

abbrev pub ListSound : (ℕ → List ℕ → Answer (Read Stmts)) → ℕ → Type 0
ListSound list l = (p : ℕ) (s : List ℕ) (xs : Stmts) (k : ℕ) → list p s ≡ reads xs k → DStmts l xs s

drop-pred : (b : ℕ) (s : List ℕ) (i : ℕ) → 0 < i → drop i (b ∷ s) ≡ drop (i - 1) s
drop-pred b s zero h = absurd (omega arith)
drop-pred b s (suc n) h = let e : suc n - 1 ≡ n = omega arith in rw e

pub list-sound : (st : ℕ → List ℕ → Answer (Read Stmt)) (l : ℕ) → StmtSound st l → (skip p : ℕ) (s : List ℕ) (xs : Stmts) (k : ℕ) →
    list_by st skip p s ≡ reads xs k → DStmts l xs (drop skip s)
unfolding list_by
list-sound st l h zero p [] xs k e = let r : nil ≡ xs = cc in subst (λ (x : Stmts). DStmts l x []) r d-nil
list-sound st l h (suc n) p [] xs k e = let r : nil ≡ xs = cc in subst (λ (x : Stmts). DStmts l x []) r d-nil
list-sound st l h (suc n) p (b ∷ s) xs k e = list-sound st l h n (suc p) s xs k e
list-sound st l h zero p (b ∷ s) xs k e =
    then_by (st p (b ∷ s)) _ e λ x i e₁ f₁.
    then_by (list_by st (i - 1) (suc p) s) _ f₁ λ ys j e₂ f₂.
    let t : Takes (DStmt l x) (b ∷ s) i = h p (b ∷ s) x i e₁ in
    let rest : DStmts l ys (drop (i - 1) s) = list-sound st l h (i - 1) (suc p) s ys j e₂ in
    let r : cons x ys ≡ xs = cc in
    subst (λ (x : Stmts). DStmts l x (b ∷ s)) r
    (subst (λ (w : List ℕ). DStmts l (cons x ys) w) (take-append-drop i (b ∷ s))
    (d-cons t.derives (rw (drop-pred b s i t.some) rest)))

module _ (list : ℕ → List ℕ → Answer (Read Stmts)) (l : ℕ) (hb : ListSound list l) where
  else-by : (p : ℕ) (s : List ℕ) (ys : Stmts) (j b : ℕ) (t : Bool) → eqb b 0xA1 ≡ t → else_by list p s t ≡ reads ys j → Follows (DElse l ys) (b ∷ s) j
  else-by p s ys j b false et e = as-follows (DElse l) e (record { fits = omega arith; derives = d-none })
  else-by p s ys j b true et e =
      and-by (read_package p s) _ e λ w e₁ f₁.
      then_by (list (p + w.used) (take (w.raw - w.used) (drop w.used s))) _ f₁ λ es i e₂ f₂.
      let k : Packs s w = package-sound p s w e₁ in
      let d = hb (p + w.used) (take (w.raw - w.used) (drop w.used s)) es i e₂ in
      as-follows (DElse l) f₂ (record { fits = omega (arith, k.within); derives = rw (eqb-true b 0xA1 et) (d-else d k.is) })

  else-sound : (p : ℕ) (s : List ℕ) (ys : Stmts) (j : ℕ) → read_else list p s ≡ reads ys j → Follows (DElse l ys) s j
  unfolding read_else
  else-sound p [] ys j e = as-follows (DElse l) e (record { fits = omega arith; derives = d-none })
  else-sound p (b ∷ s) ys j e = else-by (suc p) s ys j b (eqb b 0xA1) refl e

  abbrev HeadBytes : Head → List ℕ → Type 0
  HeadBytes (head t xs) w = DHead l t xs w

  head-takes : (w : Raw) (i : ℕ) (s : List ℕ) (t : Term) (xs : Stmts) → Packs s w → w.used + i ≤ w.raw → DTerm depth_limit t (take i (drop w.used s)) →
      DStmts l xs (take (w.raw - (w.used + i)) (drop (w.used + i) s)) → Takes (DHead l t xs) s w.raw
  head-takes w i s t xs k le dt db =
      let m : ℕ = w.raw - (w.used + i) in
      let e₁ : i + m ≡ w.raw - w.used = omega arith in
      let e₂ : take i (drop w.used s) ++ take m (drop (w.used + i) s) ≡ take (w.raw - w.used) (drop w.used s) =
      rw (← e₁, take-add i m (drop w.used s), drop-drop i w.used s) in
      let g : Package (take i (drop w.used s) ++ take m (drop (w.used + i) s)) (take w.raw s) = rw e₂ k.is in
      record { some = omega (arith, k.holds, k.own_in); fits = k.within; derives = d-head dt db g }

  pub head-sound : (p : ℕ) (s : List ℕ) (h : Head) (k : ℕ) → read_head list p s ≡ reads h k → Takes (HeadBytes h) s k
  unfolding read_head
  head-sound p s h k e =
      and-by (read_package p s) _ e λ w e₁ f₁.
      then_by (read_term depth_limit (p + w.used) (drop w.used s)) _ f₁ λ t i e₂ f₂.
      let (le, f₃) = pick-ok (leb (w.used + i) w.raw) _ 31 (p + w.raw) f₂ in
      then_by (list (p + (w.used + i)) (take (w.raw - (w.used + i)) (drop (w.used + i) s))) _ f₃ λ xs q e₄ f₄.
      as-takes HeadBytes f₄
      (head-takes w i s t xs (package-sound p s w e₁) (leb-true _ _ le)
      (term-sound depth_limit (p + w.used) (drop w.used s) t i e₂).derives
      (hb (p + (w.used + i)) (take (w.raw - (w.used + i)) (drop (w.used + i) s)) xs q e₄))

  -- an If's bytes behind its opcode
  data IfBytes : Stmt → List ℕ → Type 0 where
    if-bytes : {t : Term} {xs ys : Stmts} {w e : List ℕ} → DHead l t xs w → DElse l ys e → IfBytes (if_else t xs ys) (w ++ e)

  if-takes : (h : Head) (n j : ℕ) (s : List ℕ) (ys : Stmts) → Takes (HeadBytes h) s n → Follows (DElse l ys) (drop n s) j → Takes (IfBytes (if_of h ys)) s (n + j)
  if-takes (head t xs) n j s ys w z =
      record {
        some = omega (arith, w.some);
        fits = omega (arith, z.fits, w.fits, length-drop n s);
        derives = rw (take-add n j s) (if-bytes w.derives z.derives);
      }

  if-sound : (p : ℕ) (s : List ℕ) (x : Stmt) (k : ℕ) → read_if list p s ≡ reads x k → Takes (IfBytes x) s k
  unfolding read_if
  if-sound p s x k e =
      then_by (read_head list p s) _ e λ h n e₁ f₁.
      then_by (read_else list (p + n) (drop n s)) _ f₁ λ ys j e₂ f₂.
      as-takes IfBytes f₂ (if-takes h n j s ys (head-sound p s h n e₁) (else-sound (p + n) (drop n s) ys j e₂))

  if-stmt : {b : ℕ} {x : Stmt} {w : List ℕ} → stmt_op_at b ≡ If → IfBytes x w → DStmt (suc l) x (b ∷ w)
  if-stmt o (if-bytes d e) = d-if o d e

  while-stmt : (b : ℕ) (h : Head) (w : List ℕ) → stmt_op_at b ≡ While → HeadBytes h w → DStmt (suc l) (while_of h) (b ∷ w)
  while-stmt b (head t xs) w o d = d-while o d

  expr-takes : (b : ℕ) (s : List ℕ) (u : Term) (j : ℕ) → stmt_op_at b ≡ Expr → Takes (DTerm depth_limit u) (b ∷ s) j → Takes (DStmt (suc l) (expr u)) (b ∷ s) j
  expr-takes b s u zero o h = absurd (let z : 0 < 0 = h.some in omega arith)
  expr-takes b s u (suc j) o h = record { some = h.some; fits = h.fits; derives = d-expr o h.derives }

  stmt-by : (p : ℕ) (s : List ℕ) (x : Stmt) (k b : ℕ) (o : StmtOp) → stmt_op_at b ≡ o → stmt_by list b p s o ≡ reads x k → Takes (DStmt (suc l) x) (b ∷ s) k
  stmt-by p s x k b (Simple y) o e = as-takes (DStmt (suc l)) e (record { some = omega arith; fits = omega arith; derives = d-plain o })
  stmt-by p s x k b Return o e =
      then_by (read_term depth_limit (suc p) s) _ e λ t j e₁ e₂.
      let h : Takes (DTerm depth_limit t) s j = term-sound depth_limit (suc p) s t j e₁ in
      as-takes (DStmt (suc l)) e₂ (record { some = omega arith; fits = omega (arith, h.fits); derives = d-return o h.derives })
  stmt-by p s x k b If o e =
      then_by (read_if list (suc p) s) _ e λ y j e₁ e₂.
      let h : Takes (IfBytes y) s j = if-sound (suc p) s y j e₁ in
      as-takes (DStmt (suc l)) e₂ (record { some = omega arith; fits = omega (arith, h.fits); derives = if-stmt o h.derives })
  stmt-by p s x k b While o e =
      then_by (read_head list (suc p) s) _ e λ h n e₁ e₂.
      let g : Takes (HeadBytes h) s n = head-sound (suc p) s h n e₁ in
      as-takes (DStmt (suc l)) e₂ (record { some = omega arith; fits = omega (arith, g.fits); derives = while-stmt b h (take n s) o g.derives })
  stmt-by p s x k b Expr o e =
      then_by (read_term depth_limit p (b ∷ s)) _ e λ u j e₁ e₂.
      as-takes (DStmt (suc l)) e₂ (expr-takes b s u j o (term-sound depth_limit p (b ∷ s) u j e₁))
  stmt-by p s x k b BadStmt o e = refuses-not e

pub stmt-sound : (l : ℕ) → StmtSound (read_stmt l) l
unfolding read_stmt
stmt-sound zero p s x k e = refuses-not e
stmt-sound (suc l) p [] x k e = refuses-not e
stmt-sound (suc l) p (b ∷ s) x k e =
    stmt-by (read_list l) l (list-sound (read_stmt l) l (stmt-sound l) 0) p s x k b (stmt_op_at b) refl e

pub lists-sound : (l : ℕ) → ListSound (read_list l) l
lists-sound l p s xs k e = list-sound (read_stmt l) l (stmt-sound l) 0 p s xs k e

-- ## Complete

-- no statement starts with the else's byte
pub starts-else : List ℕ → Bool
starts-else [] = false
starts-else (b ∷ s) = eqb b 0xA1

not-else : (b : ℕ) (o : StmtOp) → stmt_op_at b ≡ o → (o ≡ BadStmt → ⊥) → eqb b 0xA1 ≡ false
unfolding stmt_op_at term_op_at look
not-else b o e h = go (eqb b 0xA1) refl
  where
    go : (t : Bool) → eqb b 0xA1 ≡ t → eqb b 0xA1 ≡ false
    go false q = q
    go true q = absurd (h (let r : b ≡ 0xA1 = eqb-true b 0xA1 q in sym (rw r at e)))

stmt-starts : {l : ℕ} {x : Stmt} {s : List ℕ} → DStmt l x s → (r : List ℕ) → starts-else (s ++ r) ≡ false
unfolding starts-else
stmt-starts (d-plain {b = b} {o = o} e) r = not-else b (Simple o) e (λ q. cc)
stmt-starts (d-return {b = b} e d) r = not-else b Return e (λ q. cc)
stmt-starts (d-if {b = b} e d f) r = not-else b If e (λ q. cc)
stmt-starts (d-while {b = b} e d) r = not-else b While e (λ q. cc)
stmt-starts (d-expr {b = b} e d) r = not-else b Expr e (λ q. cc)

stmts-starts : {l : ℕ} {xs : Stmts} {s : List ℕ} → DStmts l xs s → starts-else s ≡ false
unfolding starts-else
stmts-starts d-nil = refl
stmts-starts (d-cons {b = b} d ds) = stmt-starts d b

stmt-some : {l : ℕ} {x : Stmt} {s : List ℕ} → DStmt l x s → 0 < length s
stmt-some (d-plain e) = omega arith
stmt-some (d-return e d) = omega arith
stmt-some (d-if e d f) = omega arith
stmt-some (d-while e d) = omega arith
stmt-some (d-expr e d) = omega arith

deep : {l : ℕ} {x : Stmt} {s : List ℕ} → DStmt l x s → 0 < l
deep (d-plain e) = omega arith
deep (d-return e d) = omega arith
deep (d-if e d f) = omega arith
deep (d-while e d) = omega arith
deep (d-expr e d) = omega arith

skip : (st : ℕ → List ℕ → Answer (Read Stmt)) (p : ℕ) (s b : List ℕ) → list_by st (length s) p (s ++ b) ≡ list_by st 0 (p + length s) b
unfolding list_by
skip st p [] b = let e : p ≡ p + 0 = omega arith in ap (λ (q : ℕ). list_by st 0 q b) e
skip st p (c ∷ s) b =
    let e : suc p + length s ≡ p + suc (length s) = omega arith in
    skip st (suc p) s b ∙ ap (λ (q : ℕ). list_by st 0 q b) e

list-step : (st : ℕ → List ℕ → Answer (Read Stmt)) (p : ℕ) (s b : List ℕ) (x : Stmt) (xs : Stmts) → 0 < length s → st p (s ++ b) ≡ reads x (length s) →
    list_by st 0 (p + length s) b ≡ reads xs (length b) → list_by st 0 p (s ++ b) ≡ reads (cons x xs) (length (s ++ b))
unfolding list_by
list-step st p [] b x xs h e₁ e₂ = absurd (omega arith)
list-step st p (c ∷ s) b x xs h e₁ e₂ =
    let f : suc (length s) - 1 ≡ length s = omega arith in
    let g : list_by st (length s) (suc p) (s ++ b) ≡ reads xs (length b) =
    skip st (suc p) s b ∙ ap (λ (q : ℕ). list_by st 0 q b) (omega arith) ∙ e₂ in
    rw (e₁, f, g, length-append s b) (ap (λ (k : ℕ). reads (cons x xs) k) (omega arith))

-- a package, from what its parts read as
head_step : (list : ℕ → List ℕ → Answer (Read Stmts)) (p : ℕ) (s : List ℕ) (w : Raw) (k q : ℕ) (t : Term) (xs : Stmts) →
    read_package p s ≡ gives w → read_term depth_limit (p + w.used) (drop w.used s) ≡ reads t k → w.used + k ≤ w.raw →
    list (p + (w.used + k)) (take (w.raw - (w.used + k)) (drop (w.used + k) s)) ≡ reads xs q → read_head list p s ≡ reads (head t xs) w.raw
unfolding read_head
head_step list p s w k q t xs e₁ e₂ le e₃ = rw (e₁, e₂, le-leb _ _ le, e₃)

else-step : (list : ℕ → List ℕ → Answer (Read Stmts)) (p : ℕ) (s : List ℕ) (w : Raw) (q : ℕ) (xs : Stmts) →
    read_package p s ≡ gives w → list (p + w.used) (take (w.raw - w.used) (drop w.used s)) ≡ reads xs q → else_by list p s true ≡ reads xs (suc w.raw)
else-step list p s w q xs e₁ e₂ = rw (e₁, e₂)

else-none : (list : ℕ → List ℕ → Answer (Read Stmts)) (p : ℕ) (r : List ℕ) → starts-else r ≡ false → read_else list p r ≡ reads nil 0
unfolding starts-else read_else
else-none list p [] e = refl
else-none list p (b ∷ s) e = rw e

abbrev pub StmtComplete : ℕ → Type 0
StmtComplete l = (x : Stmt) (s : List ℕ) → DStmt l x s → (p : ℕ) (r : List ℕ) → starts-else r ≡ false → read_stmt l p (s ++ r) ≡ reads x (length s)

abbrev pub ListComplete : ℕ → Type 0
ListComplete l = (x : Stmts) (s : List ℕ) → DStmts l x s → (p : ℕ) → read_list l p s ≡ reads x (length s)

list-complete : (l : ℕ) → StmtComplete l → ListComplete l
unfolding list_by
list-complete l h x s d-nil p = refl
list-complete l h _ _ (d-cons {x = x} {xs = xs} {s = s} {b = b} d ds) p =
    list-step (read_stmt l) p s b x xs (stmt-some d) (h x s d p b (stmts-starts ds)) (list-complete l h xs b ds (p + length s))

else-complete : (l : ℕ) → ListComplete l → {x : Stmts} {s : List ℕ} → DElse l x s → (p : ℕ) (r : List ℕ) → starts-else r ≡ false →
    read_else (read_list l) p (s ++ r) ≡ reads x (length s)
unfolding read_else
else-complete l h d-none p r e = else-none (read_list l) p r e
else-complete l h (d-else {xs = xs} {b = b} {w = v} d pk) p r e =
    package-complete pk (suc p) r λ w e₁ e₂ e₃ e₄.
    let m : w.raw - w.used ≡ length b = omega arith in
    let f : take (w.raw - w.used) (drop w.used (v ++ r)) ≡ b = rw (e₄, m, take-append_seam b r) in
    else-step (read_list l) (suc p) (v ++ r) w (length b) xs e₁ (rw f (h xs b d (suc p + w.used))) ∙ rw e₂

head-complete : (l : ℕ) → ListComplete l → {t : Term} {xs : Stmts} {v : List ℕ} → DHead l t xs v → (p : ℕ) (r : List ℕ) →
    read_head (read_list l) p (v ++ r) ≡ reads (head t xs) (length v)
head-complete l h (d-head {t = t} {xs = xs} {s = s} {b = b} {w = v} dt db pk) p r =
    package-complete pk p r λ w e₁ e₂ e₃ e₄.
    let e₅ : w.raw ≡ w.used + (length s + length b) = e₃ ∙ ap (λ (k : ℕ). w.used + k) (length-append s b) in
    let m : w.raw - (w.used + length s) ≡ length b = omega arith in
    let f : drop w.used (v ++ r) ≡ s ++ (b ++ r) = e₄ ∙ append_assoc s b r in
    let g : drop (w.used + length s) (v ++ r) ≡ b ++ r = sym (drop-drop (length s) w.used (v ++ r)) ∙ ap (drop (length s)) f ∙ drop-append_seam s (b ++ r) in
    let f₂ : take (w.raw - (w.used + length s)) (drop (w.used + length s) (v ++ r)) ≡ b = rw (g, m, take-append_seam b r) in
    head_step (read_list l) p (v ++ r) w (length s) (length b) t xs e₁
    (rw f (term-complete dt (p + w.used) (b ++ r))) (omega arith)
    (rw f₂ (h xs b db (p + (w.used + length s))))
    ∙ rw e₂

stmt-complete-suc : (l : ℕ) → ListComplete l → StmtComplete (suc l)
unfolding read_stmt read_if
stmt-complete-suc l h _ _ (d-plain o) p r e = rw o
stmt-complete-suc l h _ _ (d-return o d) p r e = rw (o, term-complete d (suc p) r)
stmt-complete-suc l h _ _ (d-if {w = w} {e = v} o d de) p r e =
    rw (o, append_assoc w v r, head-complete l h d (suc p) (v ++ r), drop-append_seam w (v ++ r), else-complete l h de (suc p + length w) r e, length-append w v)
stmt-complete-suc l h _ _ (d-while o d) p r e = rw (o, head-complete l h d (suc p) r)
stmt-complete-suc l h _ _ (d-expr o d) p r e = rw (o, term-complete d p r)

pub stmt-complete : (l : ℕ) → StmtComplete l
stmt-complete zero x s d p r e = absurd (let h : 0 < 0 = deep d in omega arith)
stmt-complete (suc l) x s d p r e = stmt-complete-suc l (list-complete l (stmt-complete l)) x s d p r e

pub lists-complete : (l : ℕ) → ListComplete l
lists-complete l = list-complete l (stmt-complete l)
