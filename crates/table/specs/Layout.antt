-- The table's memory: words of 64 bits, for any tree.
use Rattle.std.specs.Prelude.{ℕ, suc, ◌+◌, ◌-◌, ◌*◌, ◌/◌, ◌%◌, ◌^◌, List, [], ◌∷◌, ◌++◌, map, length, replicate}
use Rattle.table.specs.Limits.{Limits}
use Rattle.table.specs.Tree.{Binding, Forest, none, level, Tree, bound}

-- A level's record is one word: rank (components of its path, the root's being 1), type, number of bindings, segment.
unfoldable pub pack : ℕ → ℕ → ℕ → ℕ → ℕ
pack r t n s = r * 2 ^ 45 + t * 2 ^ 42 + n * 2 ^ 32 + s

abbrev pub rank_of : ℕ → ℕ
rank_of w = w / 2 ^ 45

abbrev pub type_of : ℕ → ℕ
type_of w = w / 2 ^ 42 % 8

abbrev pub count_of : ℕ → ℕ
count_of w = w / 2 ^ 32 % 1024

abbrev pub seg_of : ℕ → ℕ
seg_of w = w % 2 ^ 32

-- A binding is one word: segment, handle.
abbrev pub bind_word : Binding → ℕ
bind_word b = b.segment * 2 ^ 32 + b.handle

abbrev pub binding_of : ℕ → Binding
binding_of w = record { segment = w / 2 ^ 32; handle = w % 2 ^ 32 }

-- the records of levels of rank r, each followed by those below it
unfoldable pub flat : ℕ → Forest → List ℕ
flat r none = []
flat r (level s t b kids next) = pack r t (length b) s ∷ (flat (suc r) kids ++ flat r next)

-- spare room is zero
unfoldable pub pad : ℕ → List ℕ → List ℕ
pad n xs = xs ++ replicate (n - length xs) 0

-- level records, binding words, how many objects there are, their values
unfoldable pub encode : Limits → Tree → List ℕ
encode m t =
    pad m.levels (flat 1 t.levels)
    ++ (pad m.bindings (map bind_word (bound t.levels))
    ++ (length t.objects ∷ pad m.objects t.objects))
