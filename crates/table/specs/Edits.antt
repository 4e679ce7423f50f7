-- Each call's work on the tree: the new tree and the answer, or document 01's refusal, in its order. A path is the keys of a normal absolute path.
use Rattle.std.specs.Prelude.{ℕ, suc, ◌-◌, Bool, false, cond, ◌||◌, List, [], ◌∷◌, ◌++◌, leb, ltb, eqb, length, take, get_or, set}
use Rattle.pkg_length.specs.Refusal.{Answer, gives, refuses, and_then}
use Rattle.table.specs.Limits.{Limits}
use Rattle.table.specs.Tree.{Binding, Forest, none, level, Tree, Level, is_live, bound, level_count}
use Rattle.table.specs.Memory.{Edited}

-- where a path ends, and where it goes on
abbrev pub reached : {A : Type 0} → List ℕ → A → A → A
reached [] here on = here
reached (s ∷ p) here on = on

-- the level at a path; 15 at the segment that has none, n segments being behind
unfoldable pub level_at : ℕ → Forest → List ℕ → Answer Level
level_at n none p = refuses 15 n
level_at n (level s' t b kids next) [] = refuses 15 n
level_at n (level s' t b kids next) (s ∷ p) =
    cond (eqb s' s) (reached p (gives (record { segment = s'; typ = t; bindings = b; children = kids })) (level_at (suc n) kids p)) (level_at n next (s ∷ p))

-- what becomes of a level and its later siblings
abbrev pub Change : Type 0
Change = ℕ → ℕ → List Binding → Forest → Forest → Forest

-- the levels with the one at the path changed
unfoldable pub alter : Change → Forest → List ℕ → Forest
alter change none p = none
alter change (level s' t b kids next) [] = level s' t b kids next
alter change (level s' t b kids next) (s ∷ p) =
    cond (eqb s' s) (reached p (change s' t b kids next) (level s' t b (alter change kids p) next)) (level s' t b kids (alter change next (s ∷ p)))

-- the path of the level that a path's last segment stands in, and that segment; `\` has none
abbrev pub scope_of : List ℕ → List ℕ
scope_of p = take (length p - 1) p

abbrev pub last_of : List ℕ → ℕ
last_of p = get_or p (length p - 1) 0

abbrev pub is_root : List ℕ → Bool
is_root p = leb (length p) 1

-- whether one of the siblings is s
unfoldable pub has_level : ℕ → Forest → Bool
has_level s none = false
has_level s (level s' t b kids next) = eqb s' s || has_level s next

-- a new level among siblings, in byte order
unfoldable pub insert_level : ℕ → ℕ → Forest → Forest
insert_level s typ none = level s typ [] none none
insert_level s typ (level s' t b kids next) = cond (ltb s s') (level s typ [] none (level s' t b kids next)) (level s' t b kids (insert_level s typ next))

-- one binding more, in byte order
unfoldable pub insert_binding : Binding → List Binding → List Binding
insert_binding x [] = x ∷ []
insert_binding x (b ∷ bs) = cond (ltb x.segment b.segment) (x ∷ b ∷ bs) (b ∷ insert_binding x bs)

-- a level with one child more, with one binding more, and gone with everything below it
unfoldable pub with_child : ℕ → ℕ → Change
with_child s typ s' t b kids next = level s' t b (insert_level s typ kids) next

unfoldable pub with_binding : Binding → Change
with_binding x s' t b kids next = level s' t (insert_binding x b) kids next

unfoldable pub without : Change
without s' t b kids next = next

abbrev pub with_levels : Tree → Forest → Tree
with_levels t f = record { levels = f; objects = t.objects }

abbrev pub with_objects : Tree → List ℕ → Tree
with_objects t vs = record { levels = t.levels; objects = vs }

-- `\` succeeds; 15; an existing level succeeds, old type kept; 18
unfoldable pub add_level_answer : Limits → Tree → List ℕ → ℕ → Answer Tree
add_level_answer m t p typ =
    cond (is_root p) (gives t)
    (and_then (level_at 0 t.levels (scope_of p)) (λ l.
    cond (has_level (last_of p) l.children) (gives t)
    (cond (leb m.levels (level_count t.levels)) (refuses 18 0)
    (gives (with_levels t (alter (with_child (last_of p) typ) t.levels (scope_of p)))))))

-- 14, 15; the level goes with everything below it, and the objects stay
unfoldable pub remove_level_answer : Tree → List ℕ → Answer Tree
remove_level_answer t p =
    cond (is_root p) (refuses 14 0)
    (and_then (level_at 0 t.levels p) (λ l. gives (with_levels t (alter without t.levels p))))

-- the handle that a segment is bound to; 16
unfoldable pub handle_in : ℕ → List Binding → Answer ℕ
handle_in s [] = refuses 16 0
handle_in s (b ∷ bs) = cond (eqb b.segment s) (gives b.handle) (handle_in s bs)

unfoldable pub is_bound : ℕ → List Binding → Bool
is_bound s [] = false
is_bound s (b ∷ bs) = eqb b.segment s || is_bound s bs

-- exact lookup: 13, 15, 16
unfoldable pub look_up_answer : Tree → List ℕ → Answer ℕ
look_up_answer t p =
    cond (is_root p) (refuses 13 0)
    (and_then (level_at 0 t.levels (scope_of p)) (λ l. handle_in (last_of p) l.bindings))

-- a name for a handle: 13, 15, 17, 19
unfoldable pub bind : Limits → Tree → List ℕ → ℕ → Answer Tree
bind m t p h =
    cond (is_root p) (refuses 13 0)
    (and_then (level_at 0 t.levels (scope_of p)) (λ l.
    cond (is_bound (last_of p) l.bindings) (refuses 17 0)
    (cond (leb m.bindings (length (bound t.levels))) (refuses 19 0)
    (gives (with_levels t (alter (with_binding (record { segment = last_of p; handle = h })) t.levels (scope_of p)))))))

-- the next handle; handles count from 0 and are never handed out again
abbrev pub next_handle : Tree → ℕ
next_handle t = length t.objects

-- 13, 15, 17, 19, 20, then the next handle
unfoldable pub add_value_answer : Limits → Tree → List ℕ → ℕ → Answer (Edited ℕ)
add_value_answer m t p v =
    and_then (bind m t p (next_handle t)) (λ u.
    cond (leb m.objects (length t.objects)) (refuses 20 0)
    (gives (record { tree = with_objects u (t.objects ++ (v ∷ [])); value = next_handle t })))

-- target 13, 15, 16, then path 13, 15, 17, 19
unfoldable pub add_alias_answer : Limits → Tree → List ℕ → List ℕ → Answer (Edited ℕ)
add_alias_answer m t p target =
    and_then (look_up_answer t target) (λ h.
    and_then (bind m t p h) (λ u.
    gives (record { tree = u; value = h })))

-- 21
unfoldable pub value_of : Tree → ℕ → Answer ℕ
value_of t h = cond (is_live t h) (gives (get_or t.objects h 0)) (refuses 21 0)

unfoldable pub set_value : Tree → ℕ → ℕ → Answer Tree
set_value t h v = cond (is_live t h) (gives (with_objects t (set t.objects h v))) (refuses 21 0)
