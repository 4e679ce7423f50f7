-- The levels from one down are a run of words, read one by one: the records of a forest are its preorder, and the level's own comes first.
use mathlib.Core.Path.{◌≡◌, refl, ap, ap₂, sym, subst, ◌∙◌}
use mathlib.Core.Bool.{Bool, true}
use mathlib.Core.List.{List, [], ◌∷◌, ◌++◌, map, map-append}
use Prim.Native.Nat.{ℕ, suc, ◌-◌, ◌<◌, ◌≤◌, ◌^◌}
use native.Mathlib.Omega.{arith}
use lib.ListN.{length, take, drop}
use borrow.Author.Tests.{ne_eqb}
use Rattle.pkg_length.specs.Refusal.{gives, refuses}
use Rattle.name_object.specs.Component.{Component, root, up, seg, is_seg_ok}
use Rattle.table.specs.Limits.{Limits}
use Rattle.table.specs.Tree.{number, Forest, none, level, is_live}
use Rattle.table.specs.Layout.{pack, flat}
use Rattle.table.specs.Memory.{is_well_formed, decode}
use Rattle.table.specs.Edits.{level_at}
use Rattle.table.specs.Levels.{Listed, preorder, levels_from, bytes_of_segment, word_level}
use Rattle.table.specs.Inside.{Sought, here, before, missing, seek_in, counts, subtree_end, placed}
use Rattle.table.specs.declared.inner.Sought.{Sought as Placed}
use Rattle.table.proofs.Numbers.{segment_of, segment-range, number_ok, segment-back}
use Rattle.table.proofs.Words.{rank-pack, type-pack, seg-pack}
use Rattle.table.proofs.Shape.{Valid}
use Rattle.table.proofs.Seek.{seek_f, lacking, lacks}
use Rattle.table.proofs.Focus.{Focus, focus}
use Rattle.table.proofs.Objects.{whole}
use Rattle.table.proofs.Held.{seek-held, levels-are, bindings-are}
use Rattle.table.proofs.Remove.{place-fits, end_fits, level-run}
use Rattle.table.proofs.LevelCalls.{length-ls, placed-here, placed-before, placed-missing}

-- a segment's bytes are the four it is numbered from
pub segment-bytes : (a b c d : ℕ) → is_seg_ok a b c d ≡ true → bytes_of_segment (number a b c d) ≡ a ∷ b ∷ c ∷ d ∷ []
unfolding bytes_of_segment segment_of
segment-bytes a b c d h =
    let r = segment-range (number a b c d) (number_ok a b c d h) in
    let e = segment-back a b c d h in
    rw (ne_eqb (number a b c d) 0 (λ z. omega arith)) (ap bytes_of e)
  where
    bytes_of : Component → List ℕ
    bytes_of root = []
    bytes_of up = []
    bytes_of (seg w x y z) = w ∷ x ∷ y ∷ z ∷ []

same-listed : {d e t u s r : ℕ} → d ≡ e → t ≡ u → s ≡ r → ◌≡◌ {A = Listed} (record { depth = d; typ = t; segment = s }) (record { depth = e; typ = u; segment = r })
same-listed x y z = λ i. record { depth = x i; typ = y i; segment = z i }

-- one word
listed-word : (d t n s : ℕ) → t < 8 → n < 1024 → s < 2 ^ 32 → word_level (pack (suc d) t n s) ≡ record { depth = d; typ = t; segment = s }
listed-word d t n s ht hn hs =
    same-listed (ap (λ (r : ℕ). r - 1) (rank-pack (suc d) t n s ht hn hs) ∙ omega arith) (type-pack (suc d) t n s ht hn hs) (seg-pack (suc d) t n s ht hn hs)

-- the words of a forest
listed-flat : (limit : ℕ) (live : ℕ → Bool) (f : Forest) (d lo : ℕ) → Valid limit live (suc d) lo f → map word_level (flat (suc d) f) ≡ preorder d f
unfolding flat preorder
listed-flat limit live none d lo v = refl
listed-flat limit live (level s t b kids next) d lo v =
    ap₂ {C = List Listed} ◌∷◌ (listed-word d t (length b) s v.0.small v.0.few v.0.fits)
    (map-append word_level (flat (suc (suc d)) kids) (flat (suc d) next)
    ∙ ap₂ {C = List Listed} ◌++◌ (listed-flat limit live kids (suc d) 0 v.1) (listed-flat limit live next d (suc s) v.2))

-- a level and those below it
listed-run : (limit : ℕ) (live : ℕ → Bool) (r d t n s : ℕ) (kids : Forest) → r ≡ suc d → t < 8 → n < 1024 → s < 2 ^ 32 → Valid limit live (suc r) 0 kids
    → map word_level (pack r t n s ∷ flat (suc r) kids) ≡ record { depth = suc d - 1; typ = t; segment = s } ∷ preorder (suc (suc d - 1)) kids
listed-run limit live r d t n s kids e ht hn hs v =
    let less : suc d - 1 ≡ d = omega arith in
    rw (less, e) (ap₂ {C = List Listed} ◌∷◌ (listed-word d t n s ht hn hs) (listed-flat limit live kids (suc d) 0 (subst (λ (k : ℕ). Valid limit live (suc k) 0 kids) e v)))

-- by what the pass over the records told
module _ (m : Limits) (hm : m.objects ≤ 2 ^ 32) (ws : List ℕ) (ok : is_well_formed m ws ≡ true) (x : ℕ) (q : List ℕ) (r : Placed) (e : r ≡ placed (take m.levels ws) (seek_in (x ∷ q) (take m.levels ws) 0 0 0)) where
  abbrev ls : List ℕ
  ls = take m.levels ws

  led : (s : Sought) → seek_in (x ∷ q) ls 0 0 0 ≡ s → seek_f (decode m ws).levels (x ∷ q) 0 0 0 ≡ s
  led s d = sym (seek-held m hm ws ok (x ∷ q)) ∙ d

  lacked : (s : Sought) → seek_in (x ∷ q) ls 0 0 0 ≡ s → lacking 0 q s (level_at 0 (decode m ws).levels (x ∷ q))
  lacked s d =
      subst (λ (s : Sought). lacking 0 q s (level_at 0 (decode m ws).levels (x ∷ q))) (led s d)
      (lacks m.components (is_live (decode m ws)) (decode m ws).levels 0 0 x q 0 0 (whole m hm ws ok).forest)

  none_from : (n : ℕ) → level_at 0 (decode m ws).levels (x ∷ q) ≡ refuses 15 n → levels_from (decode m ws) (x ∷ q) ≡ refuses 15 n
  unfolding levels_from
  none_from n d = rw d

  pub listed-before : (k : ℕ) → r ≡ Placed.Before k → levels_from (decode m ws) (x ∷ q) ≡ refuses 15 (length q)
  listed-before k d = none_from (length q) (lacked (before k) (placed-before ls (seek_in (x ∷ q) ls 0 0 0) k (sym e ∙ d)) ∙ ap (refuses 15) (omega arith))

  pub listed-missing : (n : ℕ) → r ≡ Placed.Missing n → levels_from (decode m ws) (x ∷ q) ≡ refuses 15 n
  listed-missing n d = none_from n (lacked (missing n) (placed-missing ls (seek_in (x ∷ q) ls 0 0 0) n (sym e ∙ d)))

  module _ (a b : ℕ) (d : r ≡ Placed.Here (record { level = a; binding = b })) where
    found : Focus m.components (is_live (decode m ws)) (decode m ws).levels 0 0 (x ∷ q) 0 a 0
    found = focus m.components (is_live (decode m ws)) (decode m ws).levels 0 0 x q 0 0 a (whole m hm ws ok).forest (led (here a) (placed-here ls (seek_in (x ∷ q) ls 0 0 0) a b (sym e ∙ d)).0)

    pub listed_at : (a < length ls) × (b ≡ counts (take a ls)) × (a < subtree_end ls a) × (subtree_end ls a ≤ length ls)
    listed_at =
        let y = place-fits m (decode m ws) (whole m hm ws ok) (x ∷ q) a found ls _ (levels-are m hm ws ok) (bindings-are m hm ws ok) in
        let z = end_fits m (decode m ws) (whole m hm ws ok) (x ∷ q) a found ls _ (levels-are m hm ws ok) (bindings-are m hm ws ok) in
        let n = length-ls m hm ws ok in
        (omega arith, (placed-here ls (seek_in (x ∷ q) ls 0 0 0) a b (sym e ∙ d)).1, y, omega arith)

    depth_is : found.rank ≡ suc (length q)
    depth_is = found.deep ∙ omega arith

    pub listed_here : levels_from (decode m ws) (x ∷ q) ≡ gives (map word_level (take (subtree_end ls a - a) (drop a ls)))
    unfolding levels_from
    listed_here =
        rw found.found
        (ap gives (sym (ap (map word_level) (level-run m (decode m ws) (whole m hm ws ok) (x ∷ q) a found ls _ (levels-are m hm ws ok) (bindings-are m hm ws ok))
        ∙ listed-run m.components (is_live (decode m ws)) found.rank (length q) found.typ (length found.b) found.seg found.kids depth_is
        found.valid.0.small found.valid.0.few found.valid.0.fits found.valid.1)))
