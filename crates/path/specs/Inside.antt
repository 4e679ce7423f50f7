-- What the functions inside promise one another. No public contract rests on these.
use Rattle.std.specs.Prelude.{ℕ, suc, ◌+◌, ◌-◌, ◌*◌, ◌≤◌, ◌<◌, ◌≡◌, Bool, true, false, not, ◌&&◌, ◌||◌, cond, List, [], ◌∷◌, ◌++◌, ltb, eqb, length, take, set, get_or, Option, Some, None, Result, Ok, Err}
use Rattle.pkg_length.specs.Refusal.{Answer, gives, refuses, refused, and_then}
use Rattle.pkg_length.specs.declared.AmlError.{AmlError}
use Rattle.pkg_length.specs.declared.AmlError.TheVariants.{TooManyComponents}
use Rattle.name_object.specs.Component.{Component, root, up, seg, is_seg_ok, fine, spell_one}
use Rattle.name_object.specs.Memory.{name_of, put4, path_ok, path_of_name}
use Rattle.name_object.specs.declared.AmlName.{AmlName}
use Rattle.path.specs.Normal.{step, walk, upright}
use Rattle.path.specs.Text.{before, inside, padded, reading}
use Rattle.path.specs.declared.text.Reading.{Reading}

-- memory that was tested
pub record Known (limit : ℕ) (name : AmlName) : Type 0 where
  pub size : length name.bytes ≡ 4 * limit
  pub ok : path_ok limit name ≡ true

-- ## Components in the making

-- memory shows the first of them, as many as a path has at most
unfoldable pub shown : ℕ → List Component → List ℕ
shown limit cs = (name_of limit (take limit cs)).bytes

-- the bytes of component k, written where there is room for it
unfoldable pub placed : ℕ → List ℕ → ℕ → List ℕ → List ℕ
placed limit bytes k four = cond (ltb k limit) (put4 bytes (4 * k) (get_or four 0 0) (get_or four 1 0) (get_or four 2 0) (get_or four 3 0)) bytes

unfoldable pub placed_char : ℕ → List ℕ → ℕ → ℕ → ℕ → List ℕ
placed_char limit bytes k j b = cond (ltb k limit) (set bytes (4 * k + j) b) bytes

-- a count that was tested: within the limit, or 9
abbrev pub Limits : ℕ → ℕ → Result (Unit {0}) AmlError → Type 0
Limits limit count (Ok u) = count ≤ limit
Limits limit count (Err e) = (limit < count) × (e ≡ TooManyComponents)

-- ## A walk

-- components that stand, the last one first: segments, and below them a root where there is one
unfoldable pub standing : Bool → List Component → Bool
standing rooted [] = not rooted
standing rooted (root ∷ []) = rooted
standing rooted (root ∷ x ∷ cs) = false
standing rooted (up ∷ cs) = false
standing rooted (seg a b c d ∷ cs) = is_seg_ok a b c d && standing rooted cs

-- a segment stands last
abbrev pub segment_last : List Component → Bool
segment_last [] = false
segment_last (root ∷ cs) = false
segment_last (up ∷ cs) = false
segment_last (seg a b c d ∷ cs) = true

-- a root may come next
abbrev pub fresh : List Component → Bool
fresh [] = true
fresh (x ∷ done) = false

-- memory and a height show what stands
pub record Shows (limit : ℕ) (bytes : List ℕ) (high : ℕ) (done : List Component) : Type 0 where
  pub memory : bytes ≡ shown limit (upright done)
  pub height : high ≡ length done
  pub rooted : Bool
  pub good : standing rooted done ≡ true

pub record HasSegment (limit : ℕ) (out : List ℕ) (high : ℕ) (r : Bool) : Type 0 where
  pub some : r ≡ true → 0 < high
  pub is : (done : List Component) → Shows limit out high done → r ≡ segment_last done

-- memory and an answer show where a walk came to
abbrev pub Climbed : ℕ → List ℕ → Result ℕ AmlError → Answer (List Component) → Type 0
Climbed limit bytes (Ok n) w = (done : List Component) × (w ≡ gives done) × Shows limit bytes n done
Climbed limit bytes (Err e) w = w ≡ refused e

abbrev pub at_most : Result ℕ AmlError → ℕ → Type 0
at_most (Ok n) m = n ≤ m
at_most (Err e) m = Unit {0}

pub record Stepped (limit : ℕ) (out : List ℕ) (high : ℕ) (four : List ℕ) (out' : List ℕ) (r : Result ℕ AmlError) : Type 0 where
  pub low : at_most r (high + 1)
  pub is : (done : List Component) (x : Component) → Shows limit out high done → fine (fresh done) (x ∷ []) ≡ true → spell_one x ≡ four → Climbed limit out' r (step (gives done) x)

pub record Walked (limit : ℕ) (out : List ℕ) (start : ℕ) (path : AmlName) (out' : List ℕ) (r : Result ℕ AmlError) : Type 0 where
  pub low : at_most r (start + path.count)
  pub is : (done : List Component) → Shows limit out start done → fine (fresh done) (path_of_name path) ≡ true →
      Climbed limit out' r (walk (gives done) (path_of_name path))

-- ## Reading text

-- the root that a first byte stands for
abbrev pub root_of : ℕ → List Component
root_of b = cond (eqb b 0x5C) (root ∷ []) []

-- components that were read, before those that follow
abbrev pub after : List Component → Answer (List Component) → Answer (List Component)
after done r = and_then r (λ cs. gives (done ++ cs))

-- at offset i, with `rest` to come, a reader on its way to `whole` stands before a segment
pub record Between (limit : ℕ) (out : List ℕ) (s : Reading) (i : ℕ) (rest : List ℕ) (whole : Answer (List Component)) : Type 0 where
  pub done : List Component
  pub count : s.count ≡ length done
  pub memory : out ≡ shown limit done
  pub left : after done (reading before i rest) ≡ whole

-- or within one, which memory shows padded
pub record Within (limit : ℕ) (out : List ℕ) (s : Reading) (i : ℕ) (rest : List ℕ) (whole : Answer (List Component)) : Type 0 where
  pub done : List Component
  pub start : ℕ
  pub word : List ℕ
  pub count : s.count ≡ length done
  pub chars : s.chars ≡ length word
  pub most : length word ≤ 4
  pub here : start + length word ≡ i
  pub memory : out ≡ shown limit (done ++ (padded word ∷ []))
  pub left : after done (reading (inside start word) i rest) ≡ whole

-- its count of characters tells which
pub record OnWay (limit : ℕ) (out : List ℕ) (s : Reading) (i : ℕ) (rest : List ℕ) (whole : Answer (List Component)) : Type 0 where
  pub between : s.chars ≡ 0 → Between limit out s i rest whole
  pub within : (s.chars ≡ 0 → ⊥) → Within limit out s i rest whole

abbrev pub Turned : ℕ → List ℕ → Option Reading → ℕ → ℕ → List ℕ → Answer (List Component) → Type 0
Turned limit out (Some s) i start rest whole = OnWay limit out s (suc i) rest whole
Turned limit out None i start rest whole = whole ≡ refuses 8 start

abbrev pub turn_low : Option Reading → ℕ → Type 0
turn_low (Some s) m = s.count + s.chars ≤ m
turn_low None m = Unit {0}

-- one byte more
pub record Turns (limit : ℕ) (out : List ℕ) (s : Reading) (b : ℕ) (out' : List ℕ) (r : Option Reading) : Type 0 where
  pub low : turn_low r (s.count + s.chars + 1)
  pub is : (i : ℕ) (rest : List ℕ) (whole : Answer (List Component)) → OnWay limit out s i (b ∷ rest) whole → Turned limit out' r i (i - s.chars) rest whole

-- where the parts of a text came to
abbrev pub Ended : ℕ → List ℕ → Result ℕ AmlError → Answer (List Component) → Type 0
Ended limit out (Ok n) whole = (cs : List Component) × (whole ≡ gives cs) × (n ≡ length cs) × (out ≡ shown limit cs)
Ended limit out (Err e) whole = whole ≡ refused e

-- ## Writing text

-- a `\` or a `^`
abbrev pub is_mark : ℕ → Bool
is_mark a = eqb a 0x5C || eqb a 0x5E

-- the text of a component, by its four bytes: `more` where another component follows
unfoldable pub piece : Bool → List ℕ → List ℕ
piece more four = cond (is_mark (get_or four 0 0)) (get_or four 0 0 ∷ []) (four ++ cond more (0x2E ∷ []) [])

unfoldable pub length_of_piece : Bool → ℕ → ℕ
length_of_piece more lead = cond (is_mark lead) 1 (cond more 5 4)
