-- What is read does not depend on the place that it is read at: a run reads at place 0, what the check read where it stands.
use mathlib.Core.Path.{◌≡◌}
use mathlib.Core.Bool.{Bool, true, false, cond}
use mathlib.Core.List.{List, [], ◌∷◌, ◌++◌}
use Prim.Native.Nat.{ℕ, suc, ◌+◌, ◌-◌}
use lib.Dec.{leb, eqb}
use lib.ListN.{length, take, drop, take-append-drop}
use lib.Seq.{length-take-le}
use Rattle.grammar.specs.declared.opcode.Dest.{Dest}
use Rattle.grammar.specs.declared.opcode.Dest.TheVariants.{Nowhere, ToCell, ToTarget}
use Rattle.grammar.specs.Opcode.{is_cell_byte}
use Rattle.grammar.specs.Tree.{Place, Target, nowhere, to, Term, Stmt, Stmts}
use Rattle.grammar.specs.Grammar.{depth_limit}
use Rattle.grammar.specs.Reader.{reads, then_read, read_place, read_dest, Operand, Operands, read_one, read_two, read_term, read_package, Head, read_head, else_by, read_else, read_if, read_list}
use Rattle.pkg_length.proofs.Answers.{refuses-not}
use Rattle.grammar.proofs.Answers.{then_by, and-by, pick-ok, Takes}
use Rattle.grammar.proofs.Terms.{term-sound, term-complete}
use Rattle.grammar.proofs.Statements.{lists-sound, lists-complete}
use Rattle.grammar.proofs.Packages.{package-any}

pub cell-any : (p q : ℕ) (s : List ℕ) (c : Place) (k : ℕ) → read_place p s ≡ reads c k → read_place q s ≡ reads c k
cell-any p q [] c k e = refuses-not e
cell-any p q (b ∷ s) c k e = let (t, f) = pick-ok (is_cell_byte b) _ 3 p e in rw t f

to-any : (p q : ℕ) (s : List ℕ) (x : Target) (k : ℕ) → then_read (read_place p s) (λ c k. reads (to c) k) ≡ reads x k → then_read (read_place q s) (λ c k. reads (to c) k) ≡ reads x k
to-any p q s x k e = then_by (read_place p s) _ e λ c j e₁ e₂. rw (cell-any p q s c j e₁) e₂

pub dest-any : (d : Dest) (p q : ℕ) (s : List ℕ) (x : Target) (k : ℕ) → read_dest d p s ≡ reads x k → read_dest d q s ≡ reads x k
dest-any Nowhere p q s x k e = e
dest-any ToCell p q s x k e = to-any p q s x k e
dest-any ToTarget p q [] x k e = refuses-not e
dest-any ToTarget p q (b ∷ s) x k e = go (eqb b 0) e
  where
    go : (t : Bool) → cond t (reads nowhere 1) (then_read (read_place p (b ∷ s)) (λ c k. reads (to c) k)) ≡ reads x k →
        cond t (reads nowhere 1) (then_read (read_place q (b ∷ s)) (λ c k. reads (to c) k)) ≡ reads x k
    go true f = f
    go false f = to-any p q (b ∷ s) x k f

pub term-any : (l p q : ℕ) (s : List ℕ) (t : Term) (k : ℕ) → read_term l p s ≡ reads t k → read_term l q s ≡ reads t k
term-any l p q s t k e =
    let h : Takes _ s k = term-sound l p s t k e in
    let f : read_term l q (take k s ++ drop k s) ≡ reads t (length (take k s)) = term-complete h.derives q (drop k s) in
    let n : length (take k s) ≡ k = length-take-le k s h.fits in
    rw (take-append-drop k s, n) at f

module _ (l : ℕ) (d : Dest) where
  pub one-any : (p q : ℕ) (s : List ℕ) (x : Operand) (k : ℕ) → read_one (read_term l) d p s ≡ reads x k → read_one (read_term l) d q s ≡ reads x k
  unfolding read_one
  one-any p q s x k e =
      then_by (read_term l p s) _ e λ t i e₁ f₁.
      then_by (read_dest d (p + i) (drop i s)) _ f₁ λ y j e₂ f₂.
      rw (term-any l p q s t i e₁, dest-any d (p + i) (q + i) (drop i s) y j e₂) f₂

  pub two-any : (p q : ℕ) (s : List ℕ) (x : Operands) (k : ℕ) → read_two (read_term l) d p s ≡ reads x k → read_two (read_term l) d q s ≡ reads x k
  unfolding read_two
  two-any p q s x k e =
      then_by (read_term l p s) _ e λ t i e₁ f₁.
      then_by (read_one (read_term l) d (p + i) (drop i s)) _ f₁ λ y j e₂ f₂.
      rw (term-any l p q s t i e₁, one-any (p + i) (q + i) (drop i s) y j e₂) f₂

pub list_any : (l p q : ℕ) (s : List ℕ) (xs : Stmts) (k : ℕ) → read_list l p s ≡ reads xs k → read_list l q s ≡ reads xs k
list_any l p q s xs k e =
    let d = lists-sound l p s xs k e in
    let f : read_list l p s ≡ reads xs (length s) = lists-complete l xs s d p in
    let g : read_list l q s ≡ reads xs (length s) = lists-complete l xs s d q in
    let n : length s ≡ k = cc in
    rw n at g

pub else-any : (l p q : ℕ) (s : List ℕ) (xs : Stmts) (k : ℕ) → read_else (read_list l) p s ≡ reads xs k → read_else (read_list l) q s ≡ reads xs k
unfolding read_else
else-any l p q [] xs k e = e
else-any l p q (b ∷ s) xs k e = go (eqb b 0xA1) e
  where
    go : (t : Bool) → else_by (read_list l) (suc p) s t ≡ reads xs k → else_by (read_list l) (suc q) s t ≡ reads xs k
    go false f = f
    go true f =
        and-by (read_package (suc p) s) _ f λ w e₁ f₁.
        then_by (read_list l (suc p + w.used) (take (w.raw - w.used) (drop w.used s))) _ f₁ λ ys j e₂ f₂.
        rw (package-any (suc p) (suc q) s w e₁, list_any l (suc p + w.used) (suc q + w.used) (take (w.raw - w.used) (drop w.used s)) ys j e₂) f₂

pub head-any : (l p q : ℕ) (s : List ℕ) (h : Head) (k : ℕ) → read_head (read_list l) p s ≡ reads h k → read_head (read_list l) q s ≡ reads h k
unfolding read_head
head-any l p q s h k e =
    and-by (read_package p s) _ e λ w e₁ f₁.
    then_by (read_term depth_limit (p + w.used) (drop w.used s)) _ f₁ λ t i e₂ f₂.
    let (le, f₃) = pick-ok (leb (w.used + i) w.raw) _ 31 (p + w.raw) f₂ in
    then_by (read_list l (p + (w.used + i)) (take (w.raw - (w.used + i)) (drop (w.used + i) s))) _ f₃ λ xs j e₄ f₄.
    rw (
      package-any p q s w e₁,
      term-any depth_limit (p + w.used) (q + w.used) (drop w.used s) t i e₂,
      le,
      list_any l (p + (w.used + i)) (q + (w.used + i)) (take (w.raw - (w.used + i)) (drop (w.used + i) s)) xs j e₄,
    ) f₄

pub if-any : (l p q : ℕ) (s : List ℕ) (x : Stmt) (k : ℕ) → read_if (read_list l) p s ≡ reads x k → read_if (read_list l) q s ≡ reads x k
unfolding read_if
if-any l p q s x k e =
    then_by (read_head (read_list l) p s) _ e λ h n e₁ f₁.
    then_by (read_else (read_list l) (p + n) (drop n s)) _ f₁ λ ys j e₂ f₂.
    rw (head-any l p q s h n e₁, else-any l (p + n) (q + n) (drop n s) ys j e₂) f₂
