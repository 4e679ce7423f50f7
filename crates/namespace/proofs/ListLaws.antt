-- Every live level from the start down stands in the list once, and no other does, said of the call: where it gives records, they are those of the list of the tree that memory means,
-- from the level at the path's keys down, and of that list it is `every-level-once`.
use mathlib.Core.Path.{◌≡◌, refl, ap, sym, ◌∙◌}
use mathlib.Core.Bool.{Bool, true, false, cond}
use mathlib.Core.List.{List, map}
use Prim.Native.Nat.{ℕ, ◌≤◌, ◌^◌}
use lib.Dec.{leb}
use lib.ListN.{length}
use borrow.Author.Tests.{leb-true}
use Rattle.pkg_length.specs.Refusal.{Answer, gives, refuses, and_then}
use Rattle.name_object.specs.declared.AmlName.{AmlName}
use Rattle.table.specs.Limits.{Limits}
use Rattle.table.specs.Tree.{Tree}
use Rattle.table.specs.Memory.{is_well_formed, decode}
use Rattle.table.specs.Levels.{Listed, levels_from, fitting}
use Rattle.table.proofs.Objects.{whole, means-formed, means-unformed}
use Rattle.table.proofs.LevelList.{EveryLevelOnce, every-level-once}
use Rattle.namespace.specs.Calls.{settled_keys}
use Rattle.namespace.specs.Levels.{record_of_word, records_from, levels_call}
use Rattle.namespace.specs.declared.LevelRecord.{LevelRecord}
use Rattle.pkg_length.proofs.Answers.{refuses-not, gives_same}

pub record ListsEvery (m : Limits) (ws : List ℕ) (path : AmlName) (room : ℕ) (rs : List LevelRecord) : Type 0 where
  pub formed : is_well_formed m ws ≡ true
  -- the keys of the path's normal form, and the levels from there down
  pub keys : List ℕ
  pub settled : settled_keys m.components path ≡ gives keys
  pub levels : List Listed
  pub records : rs ≡ map record_of_word levels
  pub fits : length rs ≤ room
  pub every : EveryLevelOnce (decode m ws) keys levels

module _ (m : Limits) (hm : m.objects ≤ 2 ^ 32) (ws : List ℕ) (path : AmlName) (room : ℕ) (rs : List LevelRecord) where
  pub levels-every-once : levels_call m ws path room ≡ gives rs → ListsEvery m ws path room rs
  unfolding levels_call records_from fitting
  levels-every-once e = formed (is_well_formed m ws) refl
    where
      fit : (ok : is_well_formed m ws ≡ true) (p : List ℕ) (xs : List Listed) (t : Bool) → leb (length (map record_of_word xs)) room ≡ t → settled_keys m.components path ≡ gives p → levels_from (decode m ws) p ≡ gives xs
          → cond t (gives (map record_of_word xs)) (refuses 25 (length (map record_of_word xs))) ≡ gives rs → ListsEvery m ws path room rs
      fit ok p xs true h k l d =
          let f : rs ≡ map record_of_word xs = sym (gives_same d) in
          record {
            formed = ok;
            keys = p;
            settled = k;
            levels = xs;
            records = f;
            fits = rw f (leb-true (length (map record_of_word xs)) room h);
            every = every-level-once m (decode m ws) (whole m hm ws ok) p xs l;
          }
      fit ok p xs false h k l d = refuses-not d

      list : (ok : is_well_formed m ws ≡ true) (p : List ℕ) (a : Answer (List Listed)) → settled_keys m.components path ≡ gives p → levels_from (decode m ws) p ≡ a
          → and_then a (λ xs. fitting room (map record_of_word xs)) ≡ gives rs → ListsEvery m ws path room rs
      list ok p (gives xs) k l d = fit ok p xs (leb (length (map record_of_word xs)) room) refl k l d
      list ok p (refuses n q) k l d = refuses-not d

      keyed : (ok : is_well_formed m ws ≡ true) (a : Answer (List ℕ)) → settled_keys m.components path ≡ a → and_then a (records_from room (decode m ws)) ≡ gives rs → ListsEvery m ws path room rs
      keyed ok (gives p) k d = list ok p (levels_from (decode m ws) p) k refl d
      keyed ok (refuses n q) k d = refuses-not d

      formed : (t : Bool) → is_well_formed m ws ≡ t → ListsEvery m ws path room rs
      formed true ok = keyed ok (settled_keys m.components path) refl (sym (ap (λ (a : Answer Tree). and_then a (λ t. and_then (settled_keys m.components path) (records_from room t))) (means-formed m ws ok)) ∙ e)
      formed false ok = refuses-not (sym (ap (λ (a : Answer Tree). and_then a (λ t. and_then (settled_keys m.components path) (records_from room t))) (means-unformed m ws ok)) ∙ e)
