-- A walk in memory: a law for each way that a step goes, and where a walk stands after i components.
use mathlib.Core.Path.{◌≡◌, refl, sym, ◌∙◌, ap, subst₂}
use mathlib.Core.Bool.{Bool, true, false, not, ◌||◌}
use mathlib.Core.List.{List, [], ◌∷◌}
use Prim.Native.Nat.{ℕ, suc, ◌+◌, ◌-◌, ◌*◌, ◌≤◌, ◌<◌}
use native.Mathlib.Omega.{arith}
use lib.Dec.{eqb}
use lib.ListN.{length, get_or, take, drop, take-append-drop}
use lib.Seq.{take-suc, take_all, drop-cons}
use borrow.Author.Tests.{eq-eqb, ne_eqb}
use Rattle.std.specs.Prelude.{Result, Ok}
use Rattle.pkg_length.specs.Refusal.{Answer, gives, refuses, refused}
use Rattle.pkg_length.specs.declared.AmlError.{AmlError}
use Rattle.pkg_length.proofs.Answers.{halves, never, wrong}
use Rattle.name_object.specs.Component.{Component, root, up, seg, is_seg_ok, fine, spell_one}
use Rattle.name_object.proofs.Paths.{seg-lead, lead-marks}
use Rattle.path.specs.Normal.{step, walk, upright, absolute}
use Rattle.path.specs.Inside.{shown, placed, standing, segment_last, fresh, Shows, Climbed}
use Rattle.path.proofs.Shown.{shown-push, shown-pop, shown-last}
use Rattle.path.proofs.Walks.{walk-append, walk_refused, length-upright, upright-cons, fine-any, fine-tail, fine-front, seg-of, step-good}

-- what the first byte tells
first_of : (x : Component) (four : List ℕ) → spell_one x ≡ four → get_or (spell_one x) 0 0 ≡ get_or four 0 0
first_of x four e = ap (λ (l : List ℕ). get_or l 0 0) e

pub is_up : (x : Component) (four : List ℕ) (f : Bool) → spell_one x ≡ four → fine f (x ∷ []) ≡ true → get_or four 0 0 ≡ 0x5E → x ≡ up
is_up root four f e h k = absurd (let z : 0x5C ≡ get_or four 0 0 = first_of root four e in omega arith)
is_up up four f e h k = refl
is_up (seg p q r s) four f e h k =
    absurd ((lead-marks p (seg-lead p q r s (seg-of p q r s f h))).1 (first_of (seg p q r s) four e ∙ k))

pub not-up : (x : Component) (four : List ℕ) → spell_one x ≡ four → (get_or four 0 0 ≡ 0x5E → ⊥) → x ≡ up → ⊥
not-up x four e k u = k (sym (first_of x four e) ∙ ap (λ (y : Component). get_or (spell_one y) 0 0) u)

step_push : (done : List Component) (x : Component) → (x ≡ up → ⊥) → step (gives done) x ≡ gives (x ∷ done)
unfolding step
step_push done root n = refl
step_push done up n = absurd (n refl)
step_push done (seg a b c d) n = refl

module _ (limit : ℕ) (out : List ℕ) (high : ℕ) (done : List Component) (s : Shows limit out high done) where
  -- one more stands
  pub climb-push : (x : Component) (four : List ℕ) → fine (fresh done) (x ∷ []) ≡ true → spell_one x ≡ four → (x ≡ up → ⊥) →
      Climbed limit (placed limit out high four) (Ok (high + 1)) (step (gives done) x)
  climb-push x four f e n =
      let h : high ≡ length (upright done) = s.height ∙ sym (length-upright done) in
      let p = step_push done x n in (
        x ∷ done,
        p,
        record {
          memory = rw (h, s.memory, upright-cons x done) (shown-push limit (upright done) x four e);
          height = omega (arith, s.height);
          rooted = absolute (x ∷ []) || s.rooted;
          good = step-good s.rooted done (x ∷ done) x s.good f p;
        },
      )

  -- the last segment is taken away
  pub climb-pop : segment_last done ≡ true → Climbed limit (placed limit out (high - 1) (0 ∷ 0 ∷ 0 ∷ 0 ∷ [])) (Ok (high - 1)) (step (gives done) up)
  unfolding step standing
  climb-pop l = go done s l
    where
      go : (done : List Component) → Shows limit out high done → segment_last done ≡ true → Climbed limit (placed limit out (high - 1) (0 ∷ 0 ∷ 0 ∷ 0 ∷ [])) (Ok (high - 1)) (step (gives done) up)
      go [] s l = never l
      go (root ∷ done) s l = never l
      go (up ∷ done) s l = never l
      go (seg a b c d ∷ done) s l =
          let h : high - 1 ≡ length (upright done) = omega (arith, s.height, length-upright done) in (
            done,
            refl,
            record {
              memory = rw (h, s.memory, upright-cons (seg a b c d) done) (shown-pop limit (upright done) (seg a b c d));
              height = omega (arith, s.height);
              rooted = s.rooted;
              good = (halves (is_seg_ok a b c d) (standing s.rooted done) s.good).1;
            },
          )

  pub climb-stop : segment_last done ≡ false → step (gives done) up ≡ refuses 10 0
  unfolding step
  climb-stop l = go done l
    where
      go : (done : List Component) → segment_last done ≡ false → step (gives done) up ≡ refuses 10 0
      go [] l = refl
      go (root ∷ done) l = refl
      go (up ∷ done) l = refl
      go (seg a b c d ∷ done) l = wrong refl l

  -- what stands last
  pub last_none : high ≡ 0 → false ≡ segment_last done
  last_none h = go done (sym s.height ∙ h)
    where
      go : (done : List Component) → length done ≡ 0 → false ≡ segment_last done
      go [] e = refl
      go (x ∷ done) e = absurd (omega arith)

  pub last-over : 1 < high → true ≡ segment_last done
  unfolding standing
  last-over h = go done s.good (omega (arith, s.height))
    where
      go : (done : List Component) → standing s.rooted done ≡ true → 1 < length done → true ≡ segment_last done
      go [] ok g = absurd (omega arith)
      go (root ∷ []) ok g = absurd (omega arith)
      go (root ∷ x ∷ done) ok g = never ok
      go (up ∷ done) ok g = never ok
      go (seg a b c d ∷ done) ok g = refl

  pub last_byte : 0 < high → high ≤ limit → not (eqb (get_or out (4 * (high - 1)) 0) 0x5C) ≡ segment_last done
  unfolding standing
  last_byte h l = go done s
    where
      first_byte : {a b c d p q r t : ℕ} → ◌≡◌ {A = List ℕ} (a ∷ b ∷ c ∷ d ∷ []) (p ∷ q ∷ r ∷ t ∷ []) → p ≡ a
      first_byte e = cc

      byte : (x : Component) (rest : List Component) → Shows limit out high (x ∷ rest) → (a b c d : ℕ) → spell_one x ≡ a ∷ b ∷ c ∷ d ∷ [] → get_or out (4 * (high - 1)) 0 ≡ a
      byte x rest s a b c d e =
          let n : high - 1 ≡ length (upright rest) = omega (arith, s.height, length-upright rest) in
          rw (n, s.memory, upright-cons x rest) (first_byte (sym e ∙ shown-last limit (upright rest) x (omega arith)))

      go : (done : List Component) → Shows limit out high done → not (eqb (get_or out (4 * (high - 1)) 0) 0x5C) ≡ segment_last done
      go [] s = absurd (omega (arith, s.height))
      go (root ∷ rest) s = ap not (eq-eqb _ 0x5C (byte root rest s 0x5C 0 0 0 refl))
      go (up ∷ rest) s = never s.good
      go (seg a b c d ∷ rest) s =
          let k = lead-marks a (seg-lead a b c d (halves (is_seg_ok a b c d) (standing s.rooted rest) s.good).0) in
          ap not (ne_eqb (get_or out (4 * (high - 1)) 0) 0x5C (λ e. k.0 (sym (byte (seg a b c d) rest s a b c d refl) ∙ e)))

-- nothing stands in the empty path
pub shows-none : (limit : ℕ) (bytes : List ℕ) → bytes ≡ shown limit [] → Shows limit bytes 0 []
unfolding standing upright
shows-none limit bytes e = record { memory = e; height = refl; rooted = false; good = refl }

-- the same, by other names
pub climbed-as : (limit : ℕ) (r : Result ℕ AmlError) {o p : List ℕ} {v w : Answer (List Component)} → o ≡ p → v ≡ w → Climbed limit p r w → Climbed limit o r v
climbed-as limit r e f h = subst₂ (λ (o : List ℕ) (w : Answer (List Component)). Climbed limit o r w) (sym e) (sym f) h

-- where a walk over cs stands after i components
pub record Along (limit : ℕ) (out : List ℕ) (high : ℕ) (done cs : List Component) (i : ℕ) : Type 0 where
  pub now : List Component
  pub here : walk (gives done) (take i cs) ≡ gives now
  pub shows : Shows limit out high now
  pub left : fine (fresh now) (drop i cs) ≡ true

pub along-none : (limit : ℕ) (out : List ℕ) (high : ℕ) (done cs : List Component) → Shows limit out high done → fine (fresh done) cs ≡ true → Along limit out high done cs 0
unfolding walk
along-none limit out high done cs s h = record { now = done; here = refl; shows = s; left = h }

walk-one : (w : Answer (List Component)) (x : Component) → walk w (x ∷ []) ≡ step w x
unfolding walk
walk-one w x = refl

module _ (limit : ℕ) (done cs : List Component) (i : ℕ) (h : i < length cs) (out : List ℕ) (high : ℕ) (a : Along limit out high done cs i) where
  next-fine : fine (fresh a.now) (get_or cs i up ∷ drop (suc i) cs) ≡ true
  next-fine = rw (drop-cons cs i up h) at a.left

  walk-next : walk (gives done) (take (i + 1) cs) ≡ step (gives a.now) (get_or cs i up)
  walk-next =
      let s : i + 1 ≡ suc i = omega arith in
      rw (s, take-suc cs i up h)
      (walk-append (gives done) (take i cs) (get_or cs i up ∷ []) ∙ walk-one _ _ ∙ ap (λ (w : Answer (List Component)). step w (get_or cs i up)) a.here)

  pub along-fine : fine (fresh a.now) (get_or cs i up ∷ []) ≡ true
  along-fine = fine-front (fresh a.now) (get_or cs i up ∷ []) (drop (suc i) cs) next-fine

  pub along-next : (out' : List ℕ) (n : ℕ) → Climbed limit out' (Ok n) (step (gives a.now) (get_or cs i up)) → Along limit out' n done cs (i + 1)
  along-next out' n c =
      let e : i + 1 ≡ suc i = omega arith in
      record {
        now = c.0;
        here = walk-next ∙ c.1;
        shows = c.2;
        left = rw e (fine-any (fresh c.0) (drop (suc i) cs) (fine-tail (fresh a.now) (get_or cs i up) (drop (suc i) cs) next-fine));
      }

  pub along-stop : (d : AmlError) → step (gives a.now) (get_or cs i up) ≡ refused d → walk (gives done) cs ≡ refused d
  along-stop d e =
      ap (walk (gives done)) (sym (take-append-drop (i + 1) cs))
      ∙ walk-append (gives done) (take (i + 1) cs) (drop (i + 1) cs)
      ∙ ap (λ (w : Answer (List Component)). walk w (drop (i + 1) cs)) (walk-next ∙ e)
      ∙ walk_refused (drop (i + 1) cs) _ _

pub along-all : (limit : ℕ) (out : List ℕ) (high : ℕ) (done cs : List Component) (i : ℕ) → length cs ≤ i → Along limit out high done cs i →
    Climbed limit out (Ok high) (walk (gives done) cs)
along-all limit out high done cs i h a = (a.now, sym (ap (walk (gives done)) (take_all i cs h)) ∙ a.here, a.shows)
