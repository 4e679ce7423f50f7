-- A path argument: what memory holds, or 26; and an answer by another name.
use mathlib.Core.Path.{◌≡◌, ◌∙◌, ap}
use mathlib.Core.Bool.{true, false}
use mathlib.Core.List.{List}
use Prim.Native.Nat.{ℕ}
use Rattle.pkg_length.specs.Refusal.{Answer, gives, refuses, and_then}
use Rattle.name_object.specs.Component.{Component}
use Rattle.name_object.specs.Memory.{named, path_ok, path_of_name, path_in_answer}
use Rattle.name_object.specs.declared.AmlName.{AmlName}

pub answers-as : (limit : ℕ) {a b : Answer (List Component)} {t : Answer AmlName} → a ≡ b → t ≡ named limit a → t ≡ named limit b
answers-as limit e h = h ∙ ap (named limit) e

module _ {B : Type 0} (limit : ℕ) (name : AmlName) (next : List Component → Answer B) where
  pub path-good : path_ok limit name ≡ true → next (path_of_name name) ≡ and_then (path_in_answer limit name) next
  unfolding path_in_answer
  path-good h = rw h

  pub path-bad : path_ok limit name ≡ false → refuses 26 0 ≡ and_then (path_in_answer limit name) next
  unfolding path_in_answer
  path-bad h = rw h

-- what memory holds, and nothing more
module _ (limit : ℕ) (name : AmlName) where
  pub made-bad : path_ok limit name ≡ false → refuses 26 0 ≡ path_in_answer limit name
  unfolding path_in_answer
  made-bad h = rw h

  pub made-good : path_ok limit name ≡ true → gives (path_of_name name) ≡ path_in_answer limit name
  unfolding path_in_answer
  made-good h = rw h
