-- A path's last segment, in memory: where it is bound or would be, by the definitions; and one binding more.
use mathlib.Core.Path.{◌≡◌, ap, ap₂, sym, ◌∙◌}
use mathlib.Core.Bool.{true}
use mathlib.Core.List.{List, ◌∷◌, ◌++◌, append_assoc, map, map-append}
use Prim.Native.Nat.{ℕ, suc, ◌+◌, ◌<◌, ◌≤◌, ◌^◌}
use native.Mathlib.Omega.{arith}
use lib.ListN.{length, take, drop, get_or, set, replicate, length-append, length-map}
use lib.Seq.{take_at, drop_at, get_or_at, set_at}
use borrow.Author.Tests.{lt-ltb}
use Rattle.table.specs.Limits.{Limits}
use Rattle.table.specs.Tree.{Binding, Forest, Tree, bound, is_live}
use Rattle.table.specs.Layout.{pack, count_of, flat, bind_word, binding_of}
use Rattle.table.specs.Valid.{segment_ok, count_ok}
use Rattle.table.specs.Edits.{alter, insert_binding, with_binding}
use Rattle.table.specs.Inside.{counts, bindings_at}
use Rattle.table.proofs.Words.{count-pack, bindings-back}
use Rattle.table.proofs.Shape.{Valid, LevelTests, level-tests, tests-level, fit}
use Rattle.table.proofs.Whole.{Whole, length-words, small-handles}
use Rattle.table.proofs.Focus.{Focus}
use Rattle.table.proofs.Insert.{PutIn, put-length}
use Rattle.table.proofs.Slots.{FreeAt}

-- the bindings of the level in focus, as the words have them
module _ (m : Limits) (t : Tree) (w : Whole m t) (hm : m.objects ≤ 2 ^ 32) (ls bs : List ℕ) (z y : ℕ)
    (els : ls ≡ flat 1 t.levels ++ replicate z 0) (ebs : bs ≡ map bind_word (bound t.levels) ++ replicate y 0)
    (q : List ℕ) (k : ℕ) (f : Focus m.components (is_live t) t.levels 0 0 q 0 k 0) where
  node : ℕ
  node = pack f.rank f.typ (length f.b) f.seg

  tail : List ℕ
  tail = (flat (suc f.rank) f.kids ++ flat f.rank f.next) ++ f.post ++ replicate z 0

  level-words : ls ≡ f.pre ++ (node ∷ tail)
  unfolding node tail flat
  level-words = els ∙ ap (λ (l : List ℕ). l ++ replicate z 0) f.was ∙ regroup f.pre (pack f.rank f.typ (length f.b) f.seg) (flat (suc f.rank) f.kids ++ flat f.rank f.next) f.post (replicate z 0)
    where
      regroup : (a : List ℕ) (x : ℕ) (b c d : List ℕ) → (a ++ ((x ∷ b) ++ c)) ++ d ≡ a ++ (x ∷ (b ++ c ++ d))
      regroup a x b c d = simp append_assoc

  at-is : length f.pre ≡ k
  at-is = omega (arith, f.at)

  pub node-is : get_or ls k 0 ≡ pack f.rank f.typ (length f.b) f.seg
  unfolding node
  node-is = ap (λ (l : List ℕ). get_or l k 0) level-words ∙ get_or_at f.pre node tail 0 k at-is

  count-is : count_of (get_or ls k 0) ≡ length f.b
  count-is = ap count_of node-is ∙ count-pack f.rank f.typ (length f.b) f.seg f.valid.0.small f.valid.0.few f.valid.0.fits

  pub from_is : counts (take k ls) ≡ length f.bpre
  from_is = ap counts (ap (take k) level-words ∙ take_at f.pre (node ∷ tail) k at-is) ∙ f.off

  later : List ℕ
  later = map bind_word ((bound f.kids ++ bound f.next) ++ f.bpost) ++ replicate y 0

  bind-words : bs ≡ map bind_word f.bpre ++ (map bind_word f.b ++ later)
  unfolding later bound
  bind-words =
      ebs ∙ ap (λ (l : List Binding). map bind_word l ++ replicate y 0) (f.was_b ∙ ap (λ (l : List Binding). f.bpre ++ l) (append_assoc f.b (bound f.kids ++ bound f.next) f.bpost))
      ∙ ap (λ (l : List ℕ). l ++ replicate y 0) (map-append bind_word f.bpre (f.b ++ ((bound f.kids ++ bound f.next) ++ f.bpost)) ∙ ap (λ (l : List ℕ). map bind_word f.bpre ++ l) (map-append bind_word f.b ((bound f.kids ++ bound f.next) ++ f.bpost)))
      ∙ regroup (map bind_word f.bpre) (map bind_word f.b) (map bind_word ((bound f.kids ++ bound f.next) ++ f.bpost)) (replicate y 0)
    where
      regroup : (a b c d : List ℕ) → (a ++ (b ++ c)) ++ d ≡ a ++ (b ++ (c ++ d))
      regroup a b c d = simp append_assoc

  pub bindings-at : bindings_at ls bs k ≡ f.b
  unfolding bindings_at
  bindings-at =
      ap (map binding_of)
      (ap₂ (λ (n : ℕ) (l : List ℕ). take n l) count-is
      (ap₂ (λ (n : ℕ) (l : List ℕ). drop n l) from_is bind-words ∙ drop_at (map bind_word f.bpre) (map bind_word f.b ++ later) (length f.bpre) (length-map f.bpre bind_word))
      ∙ take_at (map bind_word f.b) later (length f.b) (length-map f.b bind_word))
      ∙ bindings-back (is_live t) 0 f.b (small-handles m t w hm) f.valid.0.ordered

  -- one binding more
  module _ (s : ℕ) (x : Binding) (i : ℕ) (g : FreeAt s (is_live t) 0 x f.b (counts (take k ls)) i) where
    unfoldable pub new : Forest
    new = alter (with_binding x) t.levels q

    longer : length (insert_binding x f.b) ≡ suc (length f.b)
    longer = omega (arith, ap length g.put, length-append g.front (x ∷ g.back), ap length g.parts, length-append g.front g.back)

    more-word : (r u n n' s : ℕ) → n' ≡ suc n → pack r u n s + 2 ^ 32 ≡ pack r u n' s
    more-word r u n n' s e = unfold pack in omega arith

    pub bound-levels : set ls k (get_or ls k 0 + 2 ^ 32) ≡ flat 1 new ++ replicate z 0
    unfolding new with_binding flat node tail
    bound-levels =
        ap₂ (λ (l : List ℕ) (n : ℕ). set l k (n + 2 ^ 32)) level-words node-is
        ∙ set_at f.pre node tail (pack f.rank f.typ (length f.b) f.seg + 2 ^ 32) k at-is
        ∙ ap (λ (n : ℕ). f.pre ++ (n ∷ tail)) (more-word f.rank f.typ (length f.b) (length (insert_binding x f.b)) f.seg longer)
        ∙ sym (ap (λ (l : List ℕ). l ++ replicate z 0) (f.is (with_binding x))
        ∙ regroup f.pre (pack f.rank f.typ (length (insert_binding x f.b)) f.seg) (flat (suc f.rank) f.kids ++ flat f.rank f.next) f.post (replicate z 0))
      where
        regroup : (a : List ℕ) (x : ℕ) (b c d : List ℕ) → (a ++ ((x ∷ b) ++ c)) ++ d ≡ a ++ (x ∷ (b ++ c ++ d))
        regroup a x b c d = simp append_assoc

    pub same_count : length (flat 1 new) ≡ length (flat 1 t.levels)
    unfolding new with_binding flat
    same_count =
        ap length (f.is (with_binding x)) ∙ length-append f.pre _ ∙ sym (length-append f.pre _) ∙ sym (ap length f.was)

    pub put-binding : PutIn (map bind_word (bound t.levels)) (map bind_word (bound new)) (bind_word x) i 0
    unfolding new with_binding bound
    put-binding =
        record {
          pre = map bind_word (f.bpre ++ g.front);
          post = map bind_word (g.back ++ ((bound f.kids ++ bound f.next) ++ f.bpost));
          before = ap (map bind_word) (f.was_b ∙ ap (λ (l : List Binding). f.bpre ++ ((l ++ (bound f.kids ++ bound f.next)) ++ f.bpost)) g.parts
              ∙ regroup f.bpre g.front g.back (bound f.kids ++ bound f.next) f.bpost) ∙ map-append bind_word (f.bpre ++ g.front) _;
          now = ap (map bind_word) (f.is_b (with_binding x) ∙ ap (λ (l : List Binding). f.bpre ++ ((l ++ (bound f.kids ++ bound f.next)) ++ f.bpost)) g.put
              ∙ regroup f.bpre g.front (x ∷ g.back) (bound f.kids ++ bound f.next) f.bpost) ∙ map-append bind_word (f.bpre ++ g.front) _;
          at = omega (arith, g.at, from_is, length-map (f.bpre ++ g.front) bind_word, length-append f.bpre g.front);
        }
      where
        regroup : (a b c d e : List Binding) → a ++ ((b ++ c ++ d) ++ e) ≡ (a ++ b) ++ (c ++ (d ++ e))
        regroup a b c d e = simp append_assoc

    pub one-bound : length (bound new) ≡ suc (length (bound t.levels))
    one-bound = sym (length-words new) ∙ put-length _ _ (bind_word x) i 0 put-binding ∙ ap suc (length-words t.levels)

    pub place-bound : i ≤ length (bound t.levels)
    place-bound = omega (arith, put-binding.at, ap length put-binding.before, length-append put-binding.pre put-binding.post, length-words t.levels)

    -- the new tree is valid where its new binding is
    pub bound-valid : segment_ok s ≡ true → is_live t x.handle ≡ true → f.rank < m.components → length (bound t.levels) < m.bindings → m.bindings < 1024
        → Valid m.components (is_live t) 1 0 new
    unfolding new
    bound-valid n h d room cap =
        f.keeps (with_binding x) (unfold with_binding in (
          fit m.components (is_live t) f.rank f.lo f.seg f.typ (insert_binding x f.b)
              (tests-level m.components f.rank f.lo f.seg f.typ (length (insert_binding x f.b))
              (record { ranked = k'.ranked; shallow = k'.shallow; rises = k'.rises; named = k'.named; counted = counted }))
              (g.up n h (omega arith)),
          f.valid.1,
          f.valid.2,
        ))
      where
        k' : LevelTests m.components f.rank f.lo f.seg f.typ (length f.b)
        k' = level-tests m.components f.rank f.lo f.seg f.typ (length f.b) f.valid.0.ok

        brief : length f.b ≤ length (bound t.levels)
        brief = rw f.was_b (unfold bound in simp length-append (omega arith))

        counted : count_ok m.components f.rank (length (insert_binding x f.b)) ≡ true
        counted = rw (lt-ltb f.rank m.components d) (lt-ltb (length (insert_binding x f.b)) 1024 (omega (arith, longer, brief)))
