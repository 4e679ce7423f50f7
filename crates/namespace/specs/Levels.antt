-- The call that lists the levels, whole (02, R-8): memory is tested first (24), then the path (26, 11, 10), then that it names a live level (15), then the room in the list (25).
use Rattle.std.specs.Prelude.{cond, codes, List, ◌++◌, map, ℕ, eqb, leb, length, drop, Result, Ok, Err}
use Rattle.pkg_length.specs.Refusal.{Answer, gives, refuses, and_then}
use Rattle.name_object.specs.declared.AmlName.{AmlName}
use Rattle.table.specs.Limits.{Limits}
use Rattle.table.specs.Tree.{Tree}
use Rattle.table.specs.Memory.{means}
use Rattle.table.specs.Levels.{Listed, levels_from, fitting, bytes_of_segment}
use Rattle.namespace.specs.Calls.{settled_keys}
use Rattle.namespace.specs.declared.LevelType.{LevelType}
use Rattle.namespace.specs.declared.LevelType.TheVariants.{Scope, Device, Processor, PowerResource, ThermalZone, MethodLocals}
use Rattle.namespace.specs.declared.LevelRecord.{LevelRecord}
use Rattle.namespace.specs.declared.UnknownType.{UnknownType}

-- the type of a number: what `number_of_type` numbers, from 0 to 5
unfoldable pub type_of_level : ℕ → LevelType
type_of_level n =
    cond (eqb n 0) Scope (cond (eqb n 1) Device (cond (eqb n 2) Processor (cond (eqb n 3) PowerResource (cond (eqb n 4) ThermalZone MethodLocals))))

-- the type of a number, if one has it
abbrev pub type_numbered : ℕ → Result LevelType UnknownType
type_numbered n = cond (leb n 5) (Ok (type_of_level n)) (Err (record { 0 = n }))

-- the name that a type prints
abbrev pub type_name : LevelType → List ℕ
type_name Scope = codes "Scope"
type_name Device = codes "Device"
type_name Processor = codes "Processor"
type_name PowerResource = codes "PowerResource"
type_name ThermalZone = codes "ThermalZone"
type_name MethodLocals = codes "MethodLocals"

-- a level as the list holds it: its depth, its type, and its segment's four bytes
abbrev pub record_of_word : Listed → LevelRecord
record_of_word x = record { depth = x.depth; typ = type_of_level x.typ; segment = bytes_of_segment x.segment }

-- from the level at a path down: 15, then 25 with the number needed
unfoldable pub records_from : ℕ → Tree → List ℕ → Answer (List LevelRecord)
records_from room t p = and_then (levels_from t p) (λ xs. fitting room (map record_of_word xs))

unfoldable pub levels_call : Limits → List ℕ → AmlName → ℕ → Answer (List LevelRecord)
levels_call m ws path room = and_then (means m ws) (λ t. and_then (settled_keys m.components path) (records_from room t))

-- what the call leaves in the list, beside what it says: how many records were written, or the refusal
pub record Filled : Type 0 where
  pub records : List LevelRecord
  pub said : Answer ℕ

-- the records stand first, and those beyond them keep their contents; a refusal leaves the list as it was
abbrev pub filled : List LevelRecord → Answer (List LevelRecord) → Filled
filled olds (gives rs) = record { records = rs ++ drop (length rs) olds; said = gives (length rs) }
filled olds (refuses n p) = record { records = olds; said = refuses n p }

abbrev pub left_of_list : List LevelRecord → Answer ℕ → Filled
left_of_list rs a = record { records = rs; said = a }
