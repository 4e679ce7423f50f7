-- A path in memory: a count beside four bytes for each component, zero-filled. One definition writes it, one reads it or refuses it (26).
use Rattle.std.specs.Prelude.{ℕ, zero, suc, ◌+◌, ◌-◌, ◌*◌, Bool, true, false, ◌&&◌, cond, List, [], ◌∷◌, ◌++◌, leb, eqb, length, get_or, drop, set, replicate}
use Rattle.pkg_length.specs.Refusal.{Answer, gives, refuses}
use Rattle.name_object.specs.Component.{Component, root, up, seg, is_seg_ok, spell}
use Rattle.name_object.specs.declared.AmlName.{AmlName}

unfoldable pub zeros : ℕ → List ℕ
zeros n = replicate n 0

-- components to memory, in room for `limit` of them
unfoldable pub name_of : ℕ → List Component → AmlName
name_of limit cs = record { count = length cs; bytes = spell cs ++ zeros (4 * (limit - length cs)) }

-- memory to components: the first of the four bytes tells the kind
unfoldable pub component_of : ℕ → ℕ → ℕ → ℕ → Component
component_of a b c d = cond (eqb a 0x5C) root (cond (eqb a 0x5E) up (seg a b c d))

unfoldable pub components : ℕ → List ℕ → List Component
components zero bs = []
components (suc n) bs = component_of (get_or bs 0 0) (get_or bs 1 0) (get_or bs 2 0) (get_or bs 3 0) ∷ components n (drop 4 bs)

unfoldable pub path_of_name : AmlName → List Component
path_of_name name = components name.count name.bytes

unfoldable pub all_zero : List ℕ → Bool
all_zero [] = true
all_zero (b ∷ bs) = eqb b 0 && all_zero bs

-- nothing but zeros behind a `\` or a `^`
unfoldable pub bare : ℕ → ℕ → ℕ → Bool
bare b c d = eqb b 0 && eqb c 0 && eqb d 0

-- four bytes are a component; `\` only where it may stand, first
unfoldable pub kind_ok : Bool → ℕ → ℕ → ℕ → ℕ → Bool
kind_ok first a b c d =
    cond (eqb a 0x5C) (first && bare b c d)
    (cond (eqb a 0x5E) (bare b c d)
    (is_seg_ok a b c d))

-- n components, the first of them first, and then nothing but zeros
unfoldable pub bytes_ok : Bool → ℕ → List ℕ → Bool
bytes_ok first zero bs = all_zero bs
bytes_ok first (suc n) bs = kind_ok first (get_or bs 0 0) (get_or bs 1 0) (get_or bs 2 0) (get_or bs 3 0) && bytes_ok false n (drop 4 bs)

-- memory is a path: at most `limit` components, each of a kind, a root only first, every spare byte zero
unfoldable pub path_ok : ℕ → AmlName → Bool
path_ok limit name = leb name.count limit && bytes_ok true name.count name.bytes

-- the path that memory holds, or 26
unfoldable pub path_in_answer : ℕ → AmlName → Answer (List Component)
path_in_answer limit name = cond (path_ok limit name) (gives (path_of_name name)) (refuses 26 0)

-- a path, and what an answer gives with it
pub record Named (A : Type 0) : Type 0 where
  pub path : List Component
  pub value : A

-- the same, with the path in memory
pub record Told (A : Type 0) : Type 0 where
  pub memory : AmlName
  pub value : A

-- an answer that is a path, as the code tells it: in memory
abbrev pub named : ℕ → Answer (List Component) → Answer AmlName
named limit (gives cs) = gives (name_of limit cs)
named limit (refuses n p) = refuses n p

-- an answer that holds a path, as the code tells it
abbrev pub told : {A : Type 0} → ℕ → Answer (Named A) → Answer (Told A)
told limit (gives v) = gives (record { memory = name_of limit v.path; value = v.value })
told limit (refuses n p) = refuses n p

-- the path in memory that an answer hands over; beside a refusal there is none, and the empty path stands for it
abbrev pub handed : {A : Type 0} → ℕ → (A → AmlName) → Answer A → AmlName
handed limit memory (gives a) = memory a
handed limit memory (refuses n p) = name_of limit []

-- what `push` and `pop` do to memory
unfoldable pub put4 : List ℕ → ℕ → ℕ → ℕ → ℕ → ℕ → List ℕ
put4 bytes at a b c d = set (set (set (set bytes at a) (at + 1) b) (at + 2) c) (at + 3) d

unfoldable pub pushed : AmlName → ℕ → ℕ → ℕ → ℕ → AmlName
pushed name a b c d = record { count = name.count + 1; bytes = put4 name.bytes (4 * name.count) a b c d }

unfoldable pub popped : AmlName → AmlName
popped name = record { count = name.count - 1; bytes = put4 name.bytes (4 * (name.count - 1)) 0 0 0 0 }
