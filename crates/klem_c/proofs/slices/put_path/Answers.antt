-- The count is stored in two bytes, and the bytes are copied behind it.
use mathlib.Core.Path.{◌≡◌, ap, ◌∙◌}
use mathlib.Core.List.{List, [], ◌∷◌, ◌++◌}
use Prim.Native.Nat.{ℕ, ◌%◌, ◌/◌}
use lib.ListN.{length, take}
use borrow.Author.Rules.{rules}
use Rattle.klem_c.proofs.Copies.{low-two, put-path}
use Rattle.klem_c.proofs.slices.put_path.Goals as goal

pub returns : goal.returns
returns c =
    let l : length c.args.out.now ≡ 130 = search rules in
    let n = c.args.name.now.count in
    let e : c.copy_from_slice.new.self ≡ n % 256 ∷ n / 256 % 256 ∷ [] = c.copy_from_slice.ensures.after ∙ ap (λ (xs : List ℕ). take 2 xs) c.to_le_bytes.ensures ∙ low-two n in
    put-path c.args.out.now c.copy_from_slice-2.new.self c.copy_from_slice.new.self (ap (λ (xs : List ℕ). length xs) e) l
    ∙ ap (λ (r : List ℕ). r ++ c.copy_from_slice-2.new.self) e
    ∙ ap (λ (r : List ℕ). n % 256 ∷ n / 256 % 256 ∷ r) c.copy_from_slice-2.ensures.after
