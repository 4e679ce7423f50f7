-- Each public call, whole: memory is tested first (24), then paths in argument order (26), then document 01's rules for the call.
use Rattle.std.specs.Prelude.{cond, ℕ, List, eqb, length}
use Rattle.pkg_length.specs.Refusal.{Answer, gives, refuses, and_then}
use Rattle.name_object.specs.Component.{Component}
use Rattle.name_object.specs.Memory.{path_in_answer}
use Rattle.name_object.specs.declared.AmlName.{AmlName}
use Rattle.path.specs.Normal.{absolute, normal, resolved}
use Rattle.table.specs.Limits.{Limits}
use Rattle.table.specs.Tree.{Tree, keys}
use Rattle.table.specs.Memory.{means, size, Edited, Left, done, fresh_tree}
use Rattle.table.specs.Edits.{add_level_answer, remove_level_answer, look_up_answer, add_value_answer, add_alias_answer, value_of, set_value}
use Rattle.namespace.specs.declared.LevelType.{LevelType}
use Rattle.namespace.specs.declared.LevelType.TheVariants.{Scope, Device, Processor, PowerResource, ThermalZone, MethodLocals}

-- a fresh table refuses only memory of a wrong length
unfoldable pub new_call : Limits → List ℕ → Answer (Edited (Unit {0}))
new_call m ws = cond (eqb (length ws) (size m)) (done (gives fresh_tree)) (refuses 24 0)

-- edits and lookups want an absolute path (11), and go by its normal form (10)
unfoldable pub settled : ℕ → List Component → Answer (List Component)
settled limit cs = cond (absolute cs) (normal limit cs) (refuses 11 0)

-- the keys of a path argument
unfoldable pub settled_keys : ℕ → AmlName → Answer (List ℕ)
settled_keys limit name = and_then (path_in_answer limit name) (λ cs. and_then (settled limit cs) (λ ns. gives (keys ns)))

-- types number as `LevelType` lists them, from 0
abbrev pub number_of_type : LevelType → ℕ
number_of_type Scope = 0
number_of_type Device = 1
number_of_type Processor = 2
number_of_type PowerResource = 3
number_of_type ThermalZone = 4
number_of_type MethodLocals = 5

unfoldable pub add_level_call : Limits → List ℕ → AmlName → LevelType → Answer (Edited (Unit {0}))
add_level_call m ws path typ = and_then (means m ws) (λ t. and_then (settled_keys m.components path) (λ p. done (add_level_answer m t p (number_of_type typ))))

unfoldable pub remove_level_call : Limits → List ℕ → AmlName → Answer (Edited (Unit {0}))
remove_level_call m ws path = and_then (means m ws) (λ t. and_then (settled_keys m.components path) (λ p. done (remove_level_answer t p)))

-- the keys of a path argument against a scope
unfoldable pub resolved_keys : ℕ → AmlName → AmlName → Answer (List ℕ)
resolved_keys limit path scope = and_then (path_in_answer limit path) (λ cs. and_then (path_in_answer limit scope) (λ ss. and_then (resolved limit cs ss) (λ ns. gives (keys ns))))

unfoldable pub add_value_call : Limits → List ℕ → AmlName → ℕ → Answer (Edited ℕ)
add_value_call m ws path v = and_then (means m ws) (λ t. and_then (settled_keys m.components path) (λ p. add_value_answer m t p v))

unfoldable pub add_value_resolved_call : Limits → List ℕ → AmlName → AmlName → ℕ → Answer (Edited ℕ)
add_value_resolved_call m ws path scope v = and_then (means m ws) (λ t. and_then (resolved_keys m.components path scope) (λ p. add_value_answer m t p v))

-- the path resolves, the target resolves, then the edit
unfoldable pub alias_at : Limits → Tree → List Component → List Component → List Component → Answer (Edited ℕ)
alias_at m t cs ss ts =
    and_then (resolved m.components cs ss) (λ ps.
    and_then (resolved m.components ts ss) (λ qs.
    add_alias_answer m t (keys ps) (keys qs)))

unfoldable pub add_alias_call : Limits → List ℕ → AmlName → AmlName → AmlName → Answer (Edited ℕ)
add_alias_call m ws path scope target =
    and_then (means m ws) (λ t.
    and_then (path_in_answer m.components path) (λ cs.
    and_then (path_in_answer m.components scope) (λ ss.
    and_then (path_in_answer m.components target) (λ ts.
    alias_at m t cs ss ts))))

unfoldable pub get_handle_call : Limits → List ℕ → AmlName → Answer ℕ
get_handle_call m ws path = and_then (means m ws) (λ t. and_then (settled_keys m.components path) (λ p. look_up_answer t p))

unfoldable pub get_by_path_call : Limits → List ℕ → AmlName → Answer ℕ
get_by_path_call m ws path = and_then (means m ws) (λ t. and_then (settled_keys m.components path) (λ p. and_then (look_up_answer t p) (λ h. value_of t h)))

unfoldable pub set_by_path_call : Limits → List ℕ → AmlName → ℕ → Answer (Edited (Unit {0}))
set_by_path_call m ws path v = and_then (means m ws) (λ t. and_then (settled_keys m.components path) (λ p. and_then (look_up_answer t p) (λ h. done (set_value t h v))))

unfoldable pub get_call : Limits → List ℕ → ℕ → Answer ℕ
get_call m ws h = and_then (means m ws) (λ t. value_of t h)

unfoldable pub set_call : Limits → List ℕ → ℕ → ℕ → Answer (Edited (Unit {0}))
set_call m ws h v = and_then (means m ws) (λ t. done (set_value t h v))

-- the words that an edit leaves, beside what it says
abbrev pub edit_left : {A : Type 0} → List ℕ → Answer A → Left A
edit_left ws a = record { words = ws; said = a }
