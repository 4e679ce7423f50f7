-- Components in the making, in memory: a `put` adds one, takes the last away, or changes a character of it. Above the limit memory does not change.
use mathlib.Core.Path.{◌≡◌, refl, sym, ◌∙◌, ap}
use mathlib.Core.Bool.{Bool, true, false, cond}
use mathlib.Core.List.{List, [], ◌∷◌, ◌++◌, append_assoc, append-nil}
use Prim.Native.Nat.{ℕ, zero, suc, ◌+◌, ◌-◌, ◌*◌, ◌≤◌, ◌<◌}
use native.Mathlib.Omega.{arith}
use lib.Dec.{ltb}
use lib.ListN.{length, get_or, set, length-append}
use lib.Seq.{take_all, take-append-le, get_or-append_seam}
use borrow.Author.Tests.{ltb-true, ltb-false}
use Rattle.name_object.specs.Component.{Component, up, spell_one, spell}
use Rattle.name_object.specs.Memory.{name_of, named, put4, pushed, popped}
use Rattle.name_object.specs.declared.AmlName.{AmlName}
use Rattle.name_object.proofs.Memory.{same_name, one-view, push-one, pop-one, read_at, length-spell, spell-append}
use Rattle.pkg_length.specs.Refusal.{Answer, gives, refused}
use Rattle.pkg_length.specs.declared.AmlError.{AmlError}
use Rattle.pkg_length.specs.declared.AmlError.TheVariants.{TooManyComponents}
use Rattle.path.specs.Normal.{limited}
use Rattle.path.proofs.Walks.{limited-in, limited-over}
use Rattle.path.specs.Inside.{shown, placed, placed_char}

bytes_of : AmlName → List ℕ
bytes_of n = n.bytes

pub shown-fits : (limit : ℕ) (cs : List Component) → length cs ≤ limit → shown limit cs ≡ (name_of limit cs).bytes
unfolding shown name_of
shown-fits limit cs h = rw (take_all limit cs h)

shown-more : (limit : ℕ) (cs : List Component) (x : Component) → limit ≤ length cs → shown limit (cs ++ (x ∷ [])) ≡ shown limit cs
unfolding shown name_of
shown-more limit cs x h = rw (take-append-le limit cs (x ∷ []) h)

pub length-one : (cs : List Component) (x : Component) → length (cs ++ (x ∷ [])) ≡ length cs + 1
length-one cs x = length-append cs (x ∷ [])

-- what is written where there is room, and else stays
where-room : (k limit : ℕ) (new old whole : List ℕ) → (k < limit → new ≡ whole) → (limit ≤ k → old ≡ whole) → cond (ltb k limit) new old ≡ whole
where-room k limit new old whole f g = go (ltb k limit) refl
  where
    go : (t : Bool) → ltb k limit ≡ t → cond t new old ≡ whole
    go true t = f (ltb-true k limit t)
    go false t = g (ltb-false k limit t)

module _ (limit : ℕ) (cs : List Component) (x : Component) where
  -- one component more
  push-four : (a b c d : ℕ) → spell_one x ≡ a ∷ b ∷ c ∷ d ∷ [] → placed limit (shown limit cs) (length cs) (a ∷ b ∷ c ∷ d ∷ []) ≡ shown limit (cs ++ (x ∷ []))
  unfolding placed name_of pushed bytes_of
  push-four a b c d e = where-room (length cs) limit _ _ _ room (λ l. sym (shown-more limit cs x l))
    where
      room : length cs < limit → put4 (shown limit cs) (4 * length cs) a b c d ≡ shown limit (cs ++ (x ∷ []))
      room h =
          ap (λ (l : List ℕ). put4 l (4 * length cs) a b c d) (shown-fits limit cs (omega arith))
          ∙ ap bytes_of (push-one limit cs x a b c d h e)
          ∙ sym (shown-fits limit (cs ++ (x ∷ [])) (omega (arith, length-one cs x)))

  pub shown-push : (four : List ℕ) → spell_one x ≡ four → placed limit (shown limit cs) (length cs) four ≡ shown limit (cs ++ (x ∷ []))
  shown-push four e =
      let v = one-view x in
      let f : four ≡ v.0 ∷ v.1 ∷ v.2 ∷ v.3 ∷ [] = sym e ∙ v.4 in
      rw f (push-four v.0 v.1 v.2 v.3 v.4)

  -- the last one away
  pub shown-pop : placed limit (shown limit (cs ++ (x ∷ []))) (length cs) (0 ∷ 0 ∷ 0 ∷ 0 ∷ []) ≡ shown limit cs
  unfolding placed name_of popped bytes_of
  shown-pop = where-room (length cs) limit _ _ _ room (shown-more limit cs x)
    where
      room : length cs < limit → put4 (shown limit (cs ++ (x ∷ []))) (4 * length cs) 0 0 0 0 ≡ shown limit cs
      room h =
          let n : length cs ≡ length (cs ++ (x ∷ [])) - 1 = omega (arith, length-one cs x) in
          ap (λ (l : List ℕ). put4 l (4 * length cs) 0 0 0 0) (shown-fits limit (cs ++ (x ∷ [])) (omega (arith, length-one cs x)))
          ∙ ap (λ (k : ℕ). put4 (name_of limit (cs ++ (x ∷ []))).bytes (4 * k) 0 0 0 0) n
          ∙ ap bytes_of (let v = one-view x in pop-one limit cs x v.0 v.1 v.2 v.3 h v.4)
          ∙ sym (shown-fits limit cs (omega arith))

  -- the bytes of the last one
  pub shown-last : length cs < limit →
      spell_one x ≡ get_or (shown limit (cs ++ (x ∷ []))) (4 * length cs) 0 ∷ get_or (shown limit (cs ++ (x ∷ []))) (4 * length cs + 1) 0
      ∷ get_or (shown limit (cs ++ (x ∷ []))) (4 * length cs + 2) 0 ∷ get_or (shown limit (cs ++ (x ∷ []))) (4 * length cs + 3) 0 ∷ []
  unfolding name_of
  shown-last h =
      rw (shown-fits limit (cs ++ (x ∷ [])) (omega (arith, length-one cs x)))
      (sym (ap spell_one (get_or-append_seam cs x [] up)) ∙ read_at (cs ++ (x ∷ [])) _ (length cs) (omega (arith, length-one cs x)))

-- a character of the last one
set-in : (p q r : List ℕ) (n j v : ℕ) → length p ≡ n → j < length q → set (p ++ (q ++ r)) (n + j) v ≡ p ++ (set q j v ++ r)
set-in [] [] r n j v e h = absurd (omega arith)
set-in [] (x ∷ q) r n zero v e h = rw (sym e)
set-in [] (x ∷ q) r n (suc j) v e h =
    let z : n + suc j ≡ suc (0 + j) = omega arith in
    rw z (ap (λ (l : List ℕ). x ∷ l) (set-in [] q r 0 j v refl (omega arith)))
set-in (y ∷ p) q r n j v e h =
    let z : n + j ≡ suc (length p + j) = omega arith in
    rw z (ap (λ (l : List ℕ). y ∷ l) (set-in p q r (length p) j v refl h))

spell_last : (cs : List Component) (x : Component) → spell (cs ++ (x ∷ [])) ≡ spell cs ++ spell_one x
unfolding spell
spell_last cs x = spell-append cs (x ∷ []) ∙ ap (λ (l : List ℕ). spell cs ++ l) (append-nil (spell_one x))

pub shown-char : (limit : ℕ) (cs : List Component) (x y : Component) (j b : ℕ) → j < length (spell_one x) → spell_one y ≡ set (spell_one x) j b →
    placed_char limit (shown limit (cs ++ (x ∷ []))) (length cs) j b ≡ shown limit (cs ++ (y ∷ []))
unfolding placed_char name_of
shown-char limit cs x y j b g e = where-room (length cs) limit _ _ _ room (λ l. shown-more limit cs x l ∙ sym (shown-more limit cs y l))
  where
    room : length cs < limit → set (shown limit (cs ++ (x ∷ []))) (4 * length cs + j) b ≡ shown limit (cs ++ (y ∷ []))
    room h =
        let m : length (cs ++ (y ∷ [])) ≡ length (cs ++ (x ∷ [])) = omega (arith, length-one cs x, length-one cs y) in
        rw (shown-fits limit (cs ++ (x ∷ [])) (omega (arith, length-one cs x)), shown-fits limit (cs ++ (y ∷ [])) (omega (arith, length-one cs y)), spell_last cs x, spell_last cs y, e, m)
        (ap (λ (l : List ℕ). set l (4 * length cs + j) b) (append_assoc (spell cs) (spell_one x) _)
        ∙ set-in (spell cs) (spell_one x) _ (4 * length cs) j b (length-spell cs) g
        ∙ sym (append_assoc (spell cs) (set (spell_one x) j b) _))

-- ## The path that was made

pub made-none : (limit : ℕ) (m : AmlName) → m ≡ name_of limit [] → m.bytes ≡ shown limit []
unfolding bytes_of
made-none limit m e = ap bytes_of e ∙ sym (shown-fits limit [] (omega arith))

module _ (limit : ℕ) (cs : List Component) where
  pub made-path : (count : ℕ) (bytes : List ℕ) → bytes ≡ shown limit cs → count ≡ length cs → count ≤ limit →
      ◌≡◌ {A = Answer AmlName} (gives (record { count = count; bytes = bytes })) (named limit (limited limit cs))
  unfolding name_of
  made-path count bytes b n l =
      let k : length cs ≤ limit = omega arith in
      ap gives (same_name n (b ∙ shown-fits limit cs k)) ∙ ap (named limit) (sym (limited-in limit cs k))

  pub made-over : (count : ℕ) (e : AmlError) → count ≡ length cs → (limit < count) × (e ≡ TooManyComponents) → refused e ≡ named limit (limited limit cs)
  made-over count e n h =
      let k : limit < length cs = omega (arith, h.0) in
      ap refused h.1 ∙ ap (named limit) (sym (limited-over limit cs k))
