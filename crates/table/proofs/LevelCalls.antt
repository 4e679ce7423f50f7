-- What adding and removing a level leave in memory and say, by what the pass over the records told.
use mathlib.Core.Path.{◌≡◌, refl, ap, ap₂, sym, ◌∙◌}
use mathlib.Core.Bool.{true}
use mathlib.Core.List.{List, ◌++◌}
use Prim.Native.Nat.{ℕ, ◌+◌, ◌*◌, ◌-◌, ◌<◌, ◌≤◌, ◌^◌}
use native.Mathlib.Omega.{arith}
use lib.ListN.{length, take, drop, get_or, length-append, length-drop, length-replicate}
use lib.Seq.{get_or-take, length-take-le, take_at, drop_at, drop-drop}
use Rattle.pkg_length.specs.Refusal.{Answer, gives, refuses}
use Rattle.table.specs.Limits.{Limits}
use Rattle.table.specs.Tree.{Tree, is_live}
use Rattle.table.specs.Layout.{pack, encode}
use Rattle.table.specs.Memory.{is_well_formed, decode, Left, left, done}
use Rattle.table.specs.Edits.{last_of, alter, without, with_levels, add_level_answer, remove_level_answer}
use Rattle.table.specs.Inside.{Sought, here, before, missing, seek_in, counts, subtree_end, closed, push, placed, subtree_of}
use Rattle.table.specs.declared.inner.Sought.{Sought as Placed}
use Rattle.table.specs.declared.inner.Place.{Place}
use Rattle.table.proofs.Seek.{seek_f}
use Rattle.table.proofs.Focus.{Focus}
use Rattle.table.proofs.Objects.{whole, words, long}
use Rattle.table.proofs.Held.{seek-held, levels-room, levels-full, levels-are, bindings-are, relevel, rebuild}
use Rattle.table.proofs.AddLevel.{new, grown, add-root, add-here, add-missing, add-full, add-room, add-place, add_words, add-bound}
use Rattle.table.proofs.Remove.{place-fits, end_fits, to-fits, from-to, removed-levels, removed-binds, remove-here, remove-before, remove-missing, remove-root}

-- what the pass told
pub placed-here : (ls : List ℕ) (s : Sought) (a b : ℕ) → placed ls s ≡ Placed.Here (record { level = a; binding = b }) → (s ≡ here a) × (b ≡ counts (take a ls))
placed-here ls (here k) a b e =
    let q : ◌≡◌ {A = Place} (record { level = k; binding = counts (take k ls) }) (record { level = a; binding = b }) = cc in
    let f : k ≡ a = ap (λ (p : Place). p.level) q in
    let g : counts (take k ls) ≡ b = ap (λ (p : Place). p.binding) q in
    (ap here f, sym g ∙ ap (λ (n : ℕ). counts (take n ls)) f)
placed-here ls (before k) a b e = absurd (let z : ◌≡◌ {A = ℕ} 0 1 = cc in omega arith)
placed-here ls (missing n) a b e = absurd (let z : ◌≡◌ {A = ℕ} 0 1 = cc in omega arith)

pub placed-before : (ls : List ℕ) (s : Sought) (k : ℕ) → placed ls s ≡ Placed.Before k → s ≡ before k
placed-before ls (here k) a e = absurd (let z : ◌≡◌ {A = ℕ} 0 1 = cc in omega arith)
placed-before ls (before k) a e = let f : k ≡ a = cc in ap before f
placed-before ls (missing n) a e = absurd (let z : ◌≡◌ {A = ℕ} 0 1 = cc in omega arith)

pub placed-missing : (ls : List ℕ) (s : Sought) (n : ℕ) → placed ls s ≡ Placed.Missing n → s ≡ missing n
placed-missing ls (here k) a e = absurd (let z : ◌≡◌ {A = ℕ} 0 1 = cc in omega arith)
placed-missing ls (before k) a e = absurd (let z : ◌≡◌ {A = ℕ} 0 1 = cc in omega arith)
placed-missing ls (missing n) a e = let f : n ≡ a = cc in ap missing f

-- what an answer leaves
same_left : {A : Type 0} {ws us : List ℕ} {a b : Answer A} → ws ≡ us → a ≡ b → ◌≡◌ {A = Left A} (record { words = ws; said = a }) (record { words = us; said = b })
same_left e f = λ i. record { words = e i; said = f i }

module _ (m : Limits) (ws : List ℕ) where
  pub done_refused : (n p : ℕ) (a : Answer Tree) → a ≡ refuses n p → record { words = ws; said = refuses n p } ≡ left m ws (done a)
  done_refused n p a e = rw e

  pub done-given : (us : List ℕ) (t : Tree) (a : Answer Tree) → a ≡ gives t → us ≡ encode m t → record { words = us; said = gives tt } ≡ left m ws (done a)
  done-given us t a e f = rw e (same_left f refl)

-- a second part written over a first one that was
module _ (a b : ℕ) (us ws : List ℕ) (h : length us ≡ a) where
  pub over-rest : drop a (us ++ drop a ws) ≡ drop a ws
  over-rest = drop_at us (drop a ws) a h

  pub over_first : take a (us ++ drop a ws) ≡ us
  over_first = take_at us (drop a ws) a h

  pub over_last : drop (a + b) (us ++ drop a ws) ≡ drop (a + b) ws
  over_last = sym (drop-drop b a (us ++ drop a ws)) ∙ ap (drop b) over-rest ∙ drop-drop b a ws

pub length-closed : (a e : ℕ) (xs : List ℕ) → a ≤ e → e ≤ length xs → length (closed a e xs) ≡ length xs
unfolding closed
length-closed a e xs h k =
    length-append (take a xs) _ ∙ ap₂ ◌+◌ (length-take-le a xs (omega arith)) (length-append (drop e xs) _ ∙ ap₂ ◌+◌ (length-drop e xs) (length-replicate {A = ℕ} (e - a) 0)) ∙ sums a e (length xs) h k
  where
    sums : (a e n : ℕ) → a ≤ e → e ≤ n → a + (n - e + (e - a)) ≡ n
    sums a e n h k = omega arith

module _ (m : Limits) (hm : m.objects ≤ 2 ^ 32) (ws : List ℕ) (ok : is_well_formed m ws ≡ true) where
  abbrev ls : List ℕ
  ls = take m.levels ws

  pub length-ls : length (take m.levels ws) ≡ m.levels
  length-ls = length-take-le m.levels ws (omega (arith, long m hm ws ok))

  module _ (p : List ℕ) where
    led : (s : Sought) → seek_in p ls 0 0 0 ≡ s → seek_f (decode m ws).levels p 0 0 0 ≡ s
    led s e = sym (seek-held m hm ws ok p) ∙ e

    -- adding
    module _ (typ : ℕ) where
      pub added-root : length p ≤ 1 → record { words = ws; said = gives tt } ≡ left m ws (done (add_level_answer m (decode m ws) p typ))
      added-root h = done-given m ws ws (decode m ws) (add_level_answer m (decode m ws) p typ) (add-root m (decode m ws) p typ h) (words m hm ws ok)

      module _ (h : 1 < length p) (r : Placed) (e : r ≡ placed ls (seek_in p ls 0 0 0)) where
        pub added-here : (a b : ℕ) → r ≡ Placed.Here (record { level = a; binding = b }) → record { words = ws; said = gives tt } ≡ left m ws (done (add_level_answer m (decode m ws) p typ))
        added-here a b d =
            done-given m ws ws (decode m ws) _
            (add-here m (decode m ws) (whole m hm ws ok) p h typ a (led (here a) (placed-here ls (seek_in p ls 0 0 0) a b (sym e ∙ d)).0)) (words m hm ws ok)

        pub added-missing : (n : ℕ) → r ≡ Placed.Missing n → record { words = ws; said = refuses 15 n } ≡ left m ws (done (add_level_answer m (decode m ws) p typ))
        added-missing n d =
            done_refused m ws 15 n _ (add-missing m (decode m ws) (whole m hm ws ok) p h typ n (led (missing n) (placed-missing ls (seek_in p ls 0 0 0) n (sym e ∙ d))))

        module _ (z : 0 < m.levels) (k : ℕ) (d : r ≡ Placed.Before k) where
          gap : seek_f (decode m ws).levels p 0 0 0 ≡ before k
          gap = led (before k) (placed-before ls (seek_in p ls 0 0 0) k (sym e ∙ d))

          last_word : get_or ls (m.levels - 1) 0 ≡ get_or ws (m.levels - 1) 0
          last_word = get_or-take m.levels ws (m.levels - 1) 0 (omega arith)

          pub added_full : (get_or ws (m.levels - 1) 0 ≡ 0 → ⊥) → record { words = ws; said = refuses 18 0 } ≡ left m ws (done (add_level_answer m (decode m ws) p typ))
          added_full f =
              done_refused m ws 18 0 _ (add-full m (decode m ws) (whole m hm ws ok) p h typ k gap (levels-full m hm ws ok z (λ x. f (sym last_word ∙ x))))

          pub added-place : k ≤ length ls
          added-place = omega (arith, add-place m (decode m ws) (whole m hm ws ok) p h typ k gap, (whole m hm ws ok).levels, length-ls)

          pub added_new : get_or ws (m.levels - 1) 0 ≡ 0 → (us : List ℕ) → us ≡ take k ls ++ push (length p * 2 ^ 45 + typ * 2 ^ 42 + last_of p) (drop k ls)
              → record { words = us ++ drop m.levels ws; said = gives tt } ≡ left m ws (done (add_level_answer m (decode m ws) p typ))
          unfolding grown
          added_new f us u =
              let l = levels-room m hm ws ok z (last_word ∙ f) in
              done-given m ws (us ++ drop m.levels ws) (grown m (decode m ws) (whole m hm ws ok) p h typ k gap) _
              (add-room m (decode m ws) (whole m hm ws ok) p h typ k gap l)
              (relevel m hm ws ok (new m (decode m ws) (whole m hm ws ok) p h typ k gap) us
              (u ∙ ap (λ (w : ℕ). take k ls ++ push w (drop k ls)) (word (length p) typ (last_of p)) ∙ add_words m (decode m ws) (whole m hm ws ok) p h typ k gap ls (levels-are m hm ws ok) l)
              (add-bound m (decode m ws) (whole m hm ws ok) p h typ k gap))
            where
              word : (n t s : ℕ) → n * 2 ^ 45 + t * 2 ^ 42 + s ≡ pack n t 0 s
              word n t s = unfold pack in omega arith

    -- removing
    pub removed-root : length p ≤ 1 → record { words = ws; said = refuses 14 0 } ≡ left m ws (done (remove_level_answer (decode m ws) p))
    removed-root h = done_refused m ws 14 0 _ (remove-root (decode m ws) p h)

    module _ (h : 1 < length p) (r : Placed) (e : r ≡ placed ls (seek_in p ls 0 0 0)) where
      pub removed-before : (k : ℕ) → r ≡ Placed.Before k → record { words = ws; said = refuses 15 (length p - 1) } ≡ left m ws (done (remove_level_answer (decode m ws) p))
      removed-before k d =
          done_refused m ws 15 (length p - 1) _ (remove-before m (decode m ws) (whole m hm ws ok) p k h (led (before k) (placed-before ls (seek_in p ls 0 0 0) k (sym e ∙ d))))

      pub removed-missing : (n : ℕ) → r ≡ Placed.Missing n → record { words = ws; said = refuses 15 n } ≡ left m ws (done (remove_level_answer (decode m ws) p))
      removed-missing n d =
          done_refused m ws 15 n _ (remove-missing m (decode m ws) (whole m hm ws ok) p n h (led (missing n) (placed-missing ls (seek_in p ls 0 0 0) n (sym e ∙ d))))

      module _ (a b : ℕ) (d : r ≡ Placed.Here (record { level = a; binding = b })) where
        pub from_is : b ≡ counts (take a ls)
        from_is = (placed-here ls (seek_in p ls 0 0 0) a b (sym e ∙ d)).1

        found : (Focus m.components (is_live (decode m ws)) (decode m ws).levels 0 0 p 0 a 0) × (remove_level_answer (decode m ws) p ≡ gives (with_levels (decode m ws) (alter without (decode m ws).levels p)))
        found = remove-here m (decode m ws) (whole m hm ws ok) p a h (led (here a) (placed-here ls (seek_in p ls 0 0 0) a b (sym e ∙ d)).0)

        abbrev bs : List ℕ
        bs = take m.bindings (drop m.levels ws)

        pub length-bs : length (take m.bindings (drop m.levels ws)) ≡ m.bindings
        length-bs = length-take-le m.bindings (drop m.levels ws) (omega (arith, length-drop m.levels ws, long m hm ws ok))

        pub removed-place : (a < length ls) × (a ≤ subtree_end ls a) × (subtree_end ls a ≤ length ls)
        removed-place =
            let x = place-fits m (decode m ws) (whole m hm ws ok) p a found.0 ls bs (levels-are m hm ws ok) (bindings-are m hm ws ok) in
            let y = end_fits m (decode m ws) (whole m hm ws ok) p a found.0 ls bs (levels-are m hm ws ok) (bindings-are m hm ws ok) in
            omega (arith, length-ls)

        pub removed-range : (b ≤ counts (take (subtree_end ls a) ls)) × (counts (take (subtree_end ls a) ls) ≤ length bs)
        removed-range =
            let x = from-to m (decode m ws) (whole m hm ws ok) p a found.0 ls bs (levels-are m hm ws ok) (bindings-are m hm ws ok) in
            let y = to-fits m (decode m ws) (whole m hm ws ok) p a found.0 ls bs (levels-are m hm ws ok) (bindings-are m hm ws ok) in
            omega (arith, length-bs, from_is)

        pub removed-here : (us vs : List ℕ) → us ≡ closed a (subtree_end ls a) ls → vs ≡ closed b (counts (take (subtree_end ls a) ls)) bs
            → record { words = us ++ (vs ++ drop (m.levels + m.bindings) ws); said = gives tt } ≡ left m ws (done (remove_level_answer (decode m ws) p))
        removed-here us vs u v =
            done-given m ws _ (with_levels (decode m ws) (alter without (decode m ws).levels p)) _ found.1
            (rebuild m hm ws ok (alter without (decode m ws).levels p) us vs
            (u ∙ removed-levels m (decode m ws) (whole m hm ws ok) p a found.0 ls bs (levels-are m hm ws ok) (bindings-are m hm ws ok))
            (v ∙ ap (λ (n : ℕ). closed n (counts (take (subtree_end ls a) ls)) bs) from_is
            ∙ removed-binds m (decode m ws) (whole m hm ws ok) p a found.0 ls bs (levels-are m hm ws ok) (bindings-are m hm ws ok)))

        -- the code's two moves, one after the other
        module _ (q : Place) (f : q ≡ subtree_of ls a) (us : List ℕ) (u : us ≡ closed a q.level ls) where
          end-at : q.level ≡ subtree_end ls a
          end-at = ap (λ (x : Place). x.level) f

          to_at : q.binding ≡ counts (take (subtree_end ls a) ls)
          to_at = ap (λ (x : Place). x.binding) f

          run-place : (a ≤ q.level) × (q.level ≤ length ls)
          run-place = let x = removed-place in (rw end-at x.1, rw end-at x.2)

          pub moved_length : length us ≡ m.levels
          moved_length = ap length u ∙ length-closed a q.level ls run-place.0 run-place.1 ∙ length-ls

          rest-same : take m.bindings (drop m.levels (us ++ drop m.levels ws)) ≡ bs
          rest-same = ap (take m.bindings) (over-rest m.levels m.bindings us ws moved_length)

          pub moved-long : m.levels + m.bindings ≤ length (us ++ drop m.levels ws)
          moved-long = omega (arith, length-append us (drop m.levels ws), length-drop m.levels ws, moved_length, long m hm ws ok)

          pub moved-range : (b ≤ q.binding) × (q.binding ≤ length (take m.bindings (drop m.levels (us ++ drop m.levels ws))))
          moved-range = let x = removed-range in (rw to_at x.0, rw (to_at, rest-same) x.1)

          pub moved : (vs : List ℕ) → vs ≡ closed b q.binding (take m.bindings (drop m.levels (us ++ drop m.levels ws)))
              → record { words = take m.levels (us ++ drop m.levels ws) ++ (vs ++ drop m.bindings (drop m.levels (us ++ drop m.levels ws))); said = gives tt }
              ≡ left m ws (done (remove_level_answer (decode m ws) p))
          moved vs v =
              same_left
              (ap₂ {C = List ℕ} (λ x y. x ++ (vs ++ y)) (over_first m.levels m.bindings us ws moved_length)
              (drop-drop m.bindings m.levels (us ++ drop m.levels ws) ∙ over_last m.levels m.bindings us ws moved_length)) refl
              ∙ removed-here us vs (u ∙ ap (λ (n : ℕ). closed a n ls) end-at) (v ∙ ap₂ (closed b) to_at rest-same)

  pub run_fits : (p : List ℕ) (h : 1 < length p) (r : Placed) (e : r ≡ placed ls (seek_in p ls 0 0 0)) (a b : ℕ) (d : r ≡ Placed.Here (record { level = a; binding = b })) (q : Place) → q ≡ subtree_of ls a
      → (a ≤ q.level) × (q.level ≤ length ls)
  run_fits p h r e a b d q f =
      let x = removed-place p h r e a b d in
      let g : q.level ≡ subtree_end ls a = ap (λ (x : Place). x.level) f in
      (rw g x.1, rw g x.2)
