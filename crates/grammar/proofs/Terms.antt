-- A term is read where, and only where, the grammar derives it: by induction on the depths left.
use mathlib.Core.Path.{◌≡◌, refl, ap, subst, subst₂}
use mathlib.Core.Bool.{Bool, true, false, cond}
use mathlib.Core.List.{List, [], ◌∷◌, ◌++◌, append_assoc}
use Prim.Native.Nat.{ℕ, zero, suc, ◌+◌, ◌-◌, ◌<◌}
use native.Mathlib.Omega.{arith}
use lib.Dec.{leb, eqb}
use lib.ListN.{length, take, drop, length-append, length-drop}
use lib.Seq.{length-take-le, take-add, drop-append_seam, take-append_seam}
use borrow.Author.Tests.{eqb-true, leb-true, le-leb, ne_eqb}
use Rattle.pkg_length.specs.Refusal.{Answer}
use Rattle.pkg_length.specs.Little.{little}
use Rattle.grammar.specs.declared.opcode.Dest.{Dest}
use Rattle.grammar.specs.declared.opcode.Dest.TheVariants.{Nowhere, ToCell, ToTarget}
use Rattle.grammar.specs.declared.opcode.TermOp.{TermOp}
use Rattle.grammar.specs.declared.opcode.TermOp.TheVariants.{Constant, Bytes, Cell, Step, One, Two, BadTerm}
use Rattle.grammar.specs.Opcode.{is_cell_byte, term_op_at}
use Rattle.grammar.specs.Tree.{Place, cell, Target, nowhere, to, Term, const, read}
use Rattle.grammar.specs.Grammar.{DPlace, d_cell, DDest, d_nowhere, d_to_cell, d_null, d_target, DTerm, d_constant, d_bytes, d_read, d_step, d_one, d_two}
use Rattle.grammar.specs.Reader.{Read, reads, then_read, read_bytes, read_place, read_target, read_dest, Operand, operand, Operands, operands, before, read_one, read_two, one_of, two_of, term_by, read_term}
use Rattle.pkg_length.proofs.Answers.{refuses-not}
use Rattle.grammar.proofs.Answers.{then_by, pick-ok, Follows, Takes, as-follows, as-takes}
use Rattle.grammar.proofs.Tables.{is-cell, cell-is, cell_op, op-cell}

-- ## Sound: what is read, the grammar derives

cell-byte : (b : ℕ) → is_cell_byte b ≡ true → DPlace (cell (b - 0x60)) (b ∷ [])
cell-byte b e =
    let r = is-cell b e in
    let q : 0x60 + (b - 0x60) ≡ b = omega (arith, r) in
    subst (λ (x : ℕ). DPlace (cell (b - 0x60)) (x ∷ [])) q (d_cell (omega (arith, r)))

pub cell-sound : (p : ℕ) (s : List ℕ) (c : Place) (k : ℕ) → read_place p s ≡ reads c k → Takes (DPlace c) s k
cell-sound p [] c k e = refuses-not e
cell-sound p (b ∷ s) c k e =
    let (t, f) = pick-ok (is_cell_byte b) _ 3 p e in
    as-takes DPlace f (record { some = omega arith; fits = omega arith; derives = cell-byte b t })

to_cell : (d : Dest) → ((c : Place) (w : List ℕ) → DPlace c w → DDest d (to c) w) → (p : ℕ) (s : List ℕ) (x : Target) (k : ℕ) →
    then_read (read_place p s) (λ c k. reads (to c) k) ≡ reads x k → Follows (DDest d x) s k
to_cell d make p s x k e =
    then_by (read_place p s) _ e λ c j e₁ e₂.
    let h = cell-sound p s c j e₁ in
    as-follows (DDest d) e₂ (record { fits = h.fits; derives = make c (take j s) h.derives })

target_sound : (p : ℕ) (s : List ℕ) (x : Target) (k : ℕ) → read_target p s ≡ reads x k → Follows (DDest ToTarget x) s k
target_sound p [] x k e = refuses-not e
target_sound p (b ∷ s) x k e = go (eqb b 0) refl e
  where
    go : (t : Bool) → eqb b 0 ≡ t → cond t (reads nowhere 1) (then_read (read_place p (b ∷ s)) (λ c k. reads (to c) k)) ≡ reads x k → Follows (DDest ToTarget x) (b ∷ s) k
    go true q f = as-follows (DDest ToTarget) f (record { fits = omega arith; derives = rw (eqb-true b 0 q) d_null })
    go false q f = to_cell ToTarget (λ c w. d_target) p (b ∷ s) x k f

pub dest-sound : (d : Dest) (p : ℕ) (s : List ℕ) (x : Target) (k : ℕ) → read_dest d p s ≡ reads x k → Follows (DDest d x) s k
dest-sound Nowhere p s x k e = as-follows (DDest Nowhere) e (record { fits = omega arith; derives = d_nowhere })
dest-sound ToCell p s x k e = to_cell ToCell (λ c w. d_to_cell) p s x k e
dest-sound ToTarget p s x k e = target_sound p s x k e

-- operands and what follows them, as one run of bytes
data DOne (l : ℕ) (d : Dest) : Operand → List ℕ → Type 0 where
  d_operand : {t : Term} {x : Target} {s w : List ℕ} → DTerm l t s → DDest d x w → DOne l d (operand t x) (s ++ w)

data DTwo (l : ℕ) (d : Dest) : Operands → List ℕ → Type 0 where
  d_operands : {t u : Term} {x : Target} {s r w : List ℕ} → DTerm l t s → DTerm l u r → DDest d x w → DTwo l d (operands t u x) (s ++ (r ++ w))

abbrev pub TermSound : (ℕ → List ℕ → Answer (Read Term)) → ℕ → Type 0
TermSound term l = (p : ℕ) (s : List ℕ) (t : Term) (k : ℕ) → term p s ≡ reads t k → Takes (DTerm l t) s k

more-before : {l : ℕ} {d : Dest} {t : Term} {o : Operand} {s r : List ℕ} → DTerm l t s → DOne l d o r → DTwo l d (before t o) (s ++ r)
more-before dt (d_operand du dx) = d_operands dt du dx

module _ (term : ℕ → List ℕ → Answer (Read Term)) (l : ℕ) (ih : TermSound term l) (d : Dest) where
  one-sound : (p : ℕ) (s : List ℕ) (o : Operand) (k : ℕ) → read_one term d p s ≡ reads o k → Takes (DOne l d o) s k
  unfolding read_one
  one-sound p s o k e =
      then_by (term p s) _ e λ t i e₁ f₁.
      then_by (read_dest d (p + i) (drop i s)) _ f₁ λ x j e₂ f₂.
      let h = ih p s t i e₁ in
      let g = dest-sound d (p + i) (drop i s) x j e₂ in
      as-takes (DOne l d) f₂ (record {
        some = omega (arith, h.some);
        fits = omega (arith, h.fits, g.fits, length-drop i s);
        derives = rw (take-add i j s) (d_operand h.derives g.derives);
      })

  two-sound : (p : ℕ) (s : List ℕ) (o : Operands) (k : ℕ) → read_two term d p s ≡ reads o k → Takes (DTwo l d o) s k
  unfolding read_two
  two-sound p s o k e =
      then_by (term p s) _ e λ t i e₁ f₁.
      then_by (read_one term d (p + i) (drop i s)) _ f₁ λ x j e₂ f₂.
      let h = ih p s t i e₁ in
      let g = one-sound (p + i) (drop i s) x j e₂ in
      as-takes (DTwo l d) f₂ (record {
        some = omega (arith, h.some);
        fits = omega (arith, h.fits, g.fits, length-drop i s);
        derives = rw (take-add i j s) (more-before h.derives g.derives);
      })

one-term : {l b : ℕ} {o : _} {d : Dest} {x : Operand} {s : List ℕ} → term_op_at b ≡ One o d → DOne l d x s → DTerm (suc l) (one_of o x) (b ∷ s)
one-term e (d_operand dt dx) = d_one e dt dx

two-term : {l b : ℕ} {o : _} {d : Dest} {x : Operands} {s : List ℕ} → term_op_at b ≡ Two o d → DTwo l d x s → DTerm (suc l) (two_of o x) (b ∷ s)
two-term e (d_operands dt du dx) = d_two e dt du dx

-- one byte before
next : {D E : List ℕ → Type 0} {b : ℕ} {s : List ℕ} {k : ℕ} → ((w : List ℕ) → D w → E (b ∷ w)) → Takes D s k → Takes E (b ∷ s) (suc k)
next {s = s} {k = k} f h = record { some = omega arith; fits = omega (arith, h.fits); derives = f (take k s) h.derives }

bytes-takes : (l p b : ℕ) (s : List ℕ) (t : Term) (k n : ℕ) → term_op_at b ≡ Bytes n → read_bytes n (suc p) s ≡ reads t k → Takes (DTerm (suc l) t) (b ∷ s) (suc k)
bytes-takes l p b s t k n o e =
    let (q, f) = pick-ok (leb n (length s)) _ 1 (suc p + length s) e in
    let le = leb-true n (length s) q in
    let m : length (take n s) ≡ n = length-take-le n s le in
    let x : const (little (take n s)) ≡ t = cc in
    let y : n ≡ k = cc in
    let g : Takes (DTerm (suc l) (const (little (take n s)))) (b ∷ s) (suc n) =
    record { some = omega arith; fits = omega arith; derives = d_bytes {b = b} {s = take n s} (rw m o) } in
    subst₂ (λ (z : Term) (i : ℕ). Takes (DTerm (suc l) z) (b ∷ s) (suc i)) x y g

cell-takes : (l b c : ℕ) (s : List ℕ) → term_op_at b ≡ Cell c → Takes (DTerm (suc l) (read (cell c))) (b ∷ s) 1
cell-takes l b c s o =
    let r = op-cell b c o in
    record { some = omega arith; fits = omega arith; derives = d_read {x = cell c} {s = b ∷ []} (rw r.1 (cell-byte b r.0)) }

term-by : (term : ℕ → List ℕ → Answer (Read Term)) (l : ℕ) → TermSound term l → (p b : ℕ) (s : List ℕ) (t : Term) (k : ℕ) (o : TermOp) →
    term_op_at b ≡ o → term_by term p s o ≡ reads t k → Takes (DTerm (suc l) t) (b ∷ s) k
term-by term l ih p b s t k (Constant n) o e = as-takes (DTerm (suc l)) e (record { some = omega arith; fits = omega arith; derives = d_constant o })
term-by term l ih p b s t k (Bytes n) o e =
    then_by (read_bytes n (suc p) s) _ e λ u j e₁ e₂.
    as-takes (DTerm (suc l)) e₂ (bytes-takes l p b s u j n o e₁)
term-by term l ih p b s t k (Cell c) o e = as-takes (DTerm (suc l)) e (cell-takes l b c s o)
term-by term l ih p b s t k (Step x) o e =
    then_by (read_place (suc p) s) _ e λ c j e₁ e₂.
    as-takes (DTerm (suc l)) e₂ (next (λ w. d_step o) (cell-sound (suc p) s c j e₁))
term-by term l ih p b s t k (One x d) o e =
    then_by (read_one term d (suc p) s) _ e λ y j e₁ e₂.
    as-takes (DTerm (suc l)) e₂ (next (λ w. one-term o) (one-sound term l ih d (suc p) s y j e₁))
term-by term l ih p b s t k (Two x d) o e =
    then_by (read_two term d (suc p) s) _ e λ y j e₁ e₂.
    as-takes (DTerm (suc l)) e₂ (next (λ w. two-term o) (two-sound term l ih d (suc p) s y j e₁))
term-by term l ih p b s t k BadTerm o e = refuses-not e

pub term-sound : (l : ℕ) → TermSound (read_term l) l
unfolding read_term
term-sound zero p s t k e = refuses-not e
term-sound (suc l) p [] t k e = refuses-not e
term-sound (suc l) p (b ∷ s) t k e = term-by (read_term l) l (term-sound l) p b s t k (term_op_at b) refl e

-- ## Complete: what the grammar derives is read, whatever follows

cell-complete : {c : Place} {s : List ℕ} → DPlace c s → (p : ℕ) (r : List ℕ) → read_place p (s ++ r) ≡ reads c (length s)
cell-complete (d_cell {c = c} h) p r =
    rw (cell-is (0x60 + c) (omega arith) (omega arith)) (ap (λ (i : ℕ). reads (cell i) 1) (omega arith))

target-complete : {c : Place} {s : List ℕ} → DPlace c s → (p : ℕ) (r : List ℕ) → read_target p (s ++ r) ≡ reads (to c) (length s)
target-complete (d_cell {c = c} h) p r = rw (ne_eqb (0x60 + c) 0 (λ e. omega arith), cell-complete (d_cell h) p r)

dest-complete : {d : Dest} {x : Target} {s : List ℕ} → DDest d x s → (p : ℕ) (r : List ℕ) → read_dest d p (s ++ r) ≡ reads x (length s)
dest-complete d_nowhere p r = refl
dest-complete (d_to_cell h) p r = rw (cell-complete h p r)
dest-complete d_null p r = refl
dest-complete (d_target h) p r = target-complete h p r

pub term-complete : {l : ℕ} {t : Term} {s : List ℕ} → DTerm l t s → (p : ℕ) (r : List ℕ) → read_term l p (s ++ r) ≡ reads t (length s)
unfolding read_term read_one read_two
term-complete (d_constant e) p r = rw e
term-complete (d_bytes {s = s} e) p r =
    let le : leb (length s) (length (s ++ r)) ≡ true = le-leb (length s) (length (s ++ r)) (omega (arith, length-append s r)) in
    rw (e, le, take-append_seam s r)
term-complete (d_read (d_cell {c = c} h)) p r = rw (cell_op c h)
term-complete (d_step e h) p r = rw (e, cell-complete h (suc p) r)
term-complete (d_one {s = s} {w = w} e dt dx) p r =
    rw (e, append_assoc s w r, term-complete dt (suc p) (w ++ r), drop-append_seam s (w ++ r), dest-complete dx (suc p + length s) r, length-append s w)
term-complete (d_two {s = s} {r = v} {w = w} e dt du dx) p r =
    rw (
      e,
      append_assoc s (v ++ w) r,
      append_assoc v w r,
      term-complete dt (suc p) (v ++ (w ++ r)),
      drop-append_seam s (v ++ (w ++ r)),
      term-complete du (suc p + length s) (w ++ r),
      drop-append_seam v (w ++ r),
      dest-complete dx (suc p + length s + length v) r,
      length-append s (v ++ w),
      length-append v w,
    )

pub term-some : {l : ℕ} {t : Term} {s : List ℕ} → DTerm l t s → 0 < length s
term-some (d_constant e) = omega arith
term-some (d_bytes e) = omega arith
term-some (d_read (d_cell h)) = omega arith
term-some (d_step e h) = omega arith
term-some (d_one e dt dx) = omega arith
term-some (d_two e dt du dx) = omega arith
