-- The calls that search, whole.
use Rattle.std.specs.Prelude.{cond, ℕ, List, [], ◌∷◌}
use Rattle.pkg_length.specs.Refusal.{Answer, gives, and_then}
use Rattle.name_object.specs.Component.{Component, up}
use Rattle.name_object.specs.Memory.{Named, Told, path_in_answer}
use Rattle.name_object.specs.declared.AmlName.{AmlName}
use Rattle.path.specs.Normal.{resolved, one_segment}
use Rattle.table.specs.Limits.{Limits}
use Rattle.table.specs.Tree.{Tree, keys}
use Rattle.table.specs.Memory.{means}
use Rattle.table.specs.Edits.{look_up_answer}
use Rattle.table.specs.Search.{Hit, search_up_answer, level_up_answer}
use Rattle.namespace.specs.Calls.{settled}
use Rattle.namespace.specs.declared.Found.{Found}
use Rattle.namespace.specs.declared.LevelFound.{LevelFound}

abbrev pub first_of : List Component → Component
first_of [] = up
first_of (c ∷ cs) = c

-- any other path: resolved and looked up there only, one scope asked
unfoldable pub search_once_answer : Limits → Tree → List Component → List Component → Answer (Named Hit)
search_once_answer m t cs scope =
    and_then (resolved m.components cs scope) (λ ns.
    and_then (look_up_answer t (keys ns)) (λ h.
    gives (record { path = ns; value = record { handle = h; asked = 1 } })))

unfoldable pub search_call : Limits → List ℕ → AmlName → AmlName → Answer (Named Hit)
search_call m ws path scope =
    and_then (means m ws) (λ t.
    and_then (path_in_answer m.components path) (λ cs.
    and_then (path_in_answer m.components scope) (λ ss.
    and_then (settled m.components ss) (λ ns.
    cond (one_segment cs) (search_up_answer m t (first_of cs) ns) (search_once_answer m t cs ns)))))

-- any other path is returned unchanged, none asked
unfoldable pub level_call : Limits → List ℕ → AmlName → AmlName → Answer (Named ℕ)
level_call m ws path scope =
    and_then (means m ws) (λ t.
    and_then (path_in_answer m.components path) (λ cs.
    and_then (path_in_answer m.components scope) (λ ss.
    cond (one_segment cs)
    (and_then (settled m.components ss) (λ ns. level_up_answer m t (first_of cs) ns))
    (gives (record { path = cs; value = 0 })))))

-- what the code found: the path in memory, and what stands beside it
abbrev pub found_hit : Found → Told Hit
found_hit f = record { memory = f.name; value = record { handle = f.handle.0; asked = f.asked } }

abbrev pub found_level : LevelFound → Told ℕ
found_level f = record { memory = f.name; value = f.asked }
