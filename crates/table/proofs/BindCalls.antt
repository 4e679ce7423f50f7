-- What exact lookup and a new binding answer and leave, by where the path's last segment is.
use mathlib.Core.Path.{◌≡◌, refl, ap, ap₂, sym, subst, ◌∙◌}
use mathlib.Core.Bool.{Bool, true, false, cond}
use mathlib.Core.Logic.{◌⊎◌, inl, inr, ⊎_elim}
use mathlib.Core.List.{List, [], ◌∷◌, map}
use Prim.Native.Nat.{ℕ, suc, ◌+◌, ◌-◌, ◌<◌, ◌≤◌, ◌^◌}
use native.Mathlib.Omega.{arith}
use lib.Dec.{leb}
use lib.ListN.{length, take, drop, get_or, replicate, length-drop}
use lib.Seq.{length-take-le}
use borrow.Author.Tests.{lt-leb, le-leb, leb-true, leb-false}
use Rattle.pkg_length.specs.Refusal.{gives, refuses, refused}
use Rattle.pkg_length.specs.declared.AmlError.{AmlError}
use Rattle.table.specs.Limits.{Limits}
use Rattle.table.specs.Tree.{Binding, Tree, bound, is_live}
use Rattle.table.specs.Layout.{count_of, binding_of, flat, bind_word}
use Rattle.table.specs.Valid.{rising}
use Rattle.table.specs.Memory.{is_well_formed, decode}
use Rattle.table.specs.Edits.{level_at, alter, scope_of, last_of, handle_in, is_bound, with_binding, with_levels, look_up_answer, bind}
use Rattle.std.specs.Prelude.{Result, Ok, Err}
use Rattle.table.specs.Inside.{Sought, here, before, missing, counts, seek_in, slot_in, bindings_at, slot_spot, spot_from, spot_in, Rising, BindingsHeld}
use Rattle.table.specs.declared.inner.Place.{Place}
use Rattle.table.specs.declared.inner.Spot.{Spot}
use Rattle.table.proofs.Seek.{seek_f, lacking, lacks}
use Rattle.table.proofs.Focus.{Focus, focus, counts-append, counts-flat}
use Rattle.table.proofs.Objects.{whole, long}
use Rattle.table.proofs.Held.{Split, split-last, seek-held, levels-are, bindings-are}
use Rattle.table.proofs.Slots.{FreeAt, slot-bound, slot-live, slot-free, slots-rise}
use Rattle.table.proofs.Bind.{bindings-at}
use Rattle.table.proofs.Spots.{counted, counts-spare}

at_words : (ls bs : List ℕ) (k : ℕ) → bindings_at ls bs k ≡ map binding_of (take (count_of (get_or ls k 0)) (drop (counts (take k ls)) bs))
unfolding bindings_at
at_words ls bs k = refl

not-refused : {T : Type 0} {e : AmlError} (k : ℕ) (q : Result ℕ ℕ) → Ok (slot_spot k q) ≡ Err e → T
not-refused k (Ok h) d = absurd (let z : ◌≡◌ {A = ℕ} 0 1 = cc in omega arith)
not-refused k (Err i) d = absurd (let z : ◌≡◌ {A = ℕ} 0 1 = cc in omega arith)

slot-of-bound : {h : ℕ} (k : ℕ) (q : Result ℕ ℕ) → ◌≡◌ {A = Result Spot AmlError} (Ok (slot_spot k q)) (Ok (Spot.Bound h)) → q ≡ Ok h
slot-of-bound {h} k (Ok g) d = let e : g ≡ h = cc in ap Ok e
slot-of-bound k (Err i) d = absurd (let z : ◌≡◌ {A = ℕ} 0 1 = cc in omega arith)

slot-of-free : {at i : ℕ} (k : ℕ) (q : Result ℕ ℕ) → ◌≡◌ {A = Result Spot AmlError} (Ok (slot_spot k q)) (Ok (Spot.Free (record { level = at; binding = i }))) → (q ≡ Err i) × (k ≡ at)
slot-of-free k (Ok h) d = absurd (let z : ◌≡◌ {A = ℕ} 0 1 = cc in omega arith)
slot-of-free {at} {i} k (Err j) d =
    let q : ◌≡◌ {A = Place} (record { level = k; binding = j }) (record { level = at; binding = i }) = cc in
    (ap (λ (p : Place). Err p.binding) q, ap (λ (p : Place). p.level) q)

refused-bound : {T : Type 0} {e : AmlError} {h : ℕ} → ◌≡◌ {A = Result Spot AmlError} (Err e) (Ok (Spot.Bound h)) → T
refused-bound d = absurd (let z : ◌≡◌ {A = ℕ} 0 1 = cc in omega arith)

refused-free : {T : Type 0} {e : AmlError} {a i : ℕ} → ◌≡◌ {A = Result Spot AmlError} (Err e) (Ok (Spot.Free (record { level = a; binding = i }))) → T
refused-free d = absurd (let z : ◌≡◌ {A = ℕ} 0 1 = cc in omega arith)

module _ (m : Limits) (hm : m.objects ≤ 2 ^ 32) (ws : List ℕ) (ok : is_well_formed m ws ≡ true) where
  abbrev t : Tree
  t = decode m ws

  abbrev ls : List ℕ
  ls = take m.levels ws

  abbrev bs : List ℕ
  bs = take m.bindings (drop m.levels ws)

  abbrev z : ℕ
  z = m.levels - length (flat 1 (decode m ws).levels)

  abbrev y : ℕ
  y = m.bindings - length (map bind_word (bound (decode m ws).levels))

  pub length-bs : length (take m.bindings (drop m.levels ws)) ≡ m.bindings
  length-bs = length-take-le m.bindings (drop m.levels ws) (omega (arith, length-drop m.levels ws, long m hm ws ok))

  -- the bindings that the records count are there
  pub bindings-held : BindingsHeld (take m.levels ws) (take m.bindings (drop m.levels ws))
  bindings-held = record { held = held; rise = rise }
    where
      total : counts ls ≡ length (bound t.levels)
      total =
          ap counts (levels-are m hm ws ok) ∙ counts-append (flat 1 t.levels) (replicate z 0)
          ∙ ap₂ ◌+◌ (counts-flat m.components (is_live t) 1 0 t.levels (whole m hm ws ok).forest) (counts-spare z) ∙ plus (length (bound t.levels))
        where
          plus : (n : ℕ) → n + 0 ≡ n
          plus n = omega arith

      held : (k : ℕ) → counts (take k ls) + count_of (get_or ls k 0) ≤ length bs
      held k = omega (arith, counted ls k, total, length-bs, (whole m hm ws ok).bindings)

      rise : (p : List ℕ) (k : ℕ) → 0 < length p → seek_in p ls 0 0 0 ≡ here k → Rising bs (counts (take k ls)) (count_of (get_or ls k 0))
      rise [] k h e = absurd (omega arith)
      rise (x ∷ q) k h e =
          slots-rise (is_live t) bs (counts (take k ls)) (count_of (get_or ls k 0)) (held k)
          ordered
        where
          f : Focus m.components (is_live t) t.levels 0 0 (x ∷ q) 0 k 0
          f = focus m.components (is_live t) t.levels 0 0 x q 0 0 k (whole m hm ws ok).forest (sym (seek-held m hm ws ok (x ∷ q)) ∙ e)

          ordered : rising (is_live t) 0 (map binding_of (take (count_of (get_or ls k 0)) (drop (counts (take k ls)) bs))) ≡ true
          ordered = rw (sym (at_words ls bs k) ∙ bindings-at m t (whole m hm ws ok) hm ls bs z y (levels-are m hm ws ok) (bindings-are m hm ws ok) (x ∷ q) k f) f.valid.0.ordered

  module _ (p : List ℕ) where
    -- the level that the last segment stands in is not there, or there is no such level to ask for
    pub record Away : Type 0 where
      pub error : AmlError
      pub told : spot_in ls bs p ≡ Err error
      pub looked : look_up_answer t p ≡ refused error
      pub tied : (h : ℕ) → bind m t p h ≡ refused error

    pub record At : Type 0 where
      pub more : 1 < length p
      pub at : ℕ
      pub level : Focus m.components (is_live t) t.levels 0 0 (scope_of p) 0 at 0
      pub told : spot_in ls bs p ≡ Ok (slot_spot at (slot_in (last_of p) level.b (counts (take at ls))))

    module _ (h : 1 < length p) (e : AmlError) (l : level_at 0 t.levels (scope_of p) ≡ refused e) where
      lost-looked : look_up_answer t p ≡ refused e
      unfolding look_up_answer
      lost-looked = rw (lt-leb (length p) 1 h, l)

      lost-tied : (x : ℕ) → bind m t p x ≡ refused e
      unfolding bind
      lost-tied x = rw (lt-leb (length p) 1 h, l)

    module _ (h : length p ≤ 1) where
      root-away : Away
      root-away = record { error = AmlError.RootNotAllowed; told = told; looked = looked; tied = tied }
        where
          told : spot_in ls bs p ≡ Err AmlError.RootNotAllowed
          told = unfold spot_in in rw (le-leb (length p) 1 h)

          looked : look_up_answer t p ≡ refuses 13 0
          looked = unfold look_up_answer in rw (le-leb (length p) 1 h)

          tied : (x : ℕ) → bind m t p x ≡ refuses 13 0
          tied x = unfold bind in rw (le-leb (length p) 1 h)

    module _ (h : 1 < length p) (s : Sought) (e : seek_f t.levels (scope_of p) 0 0 0 ≡ s) where
      told_at : spot_in ls bs p ≡ spot_from ls bs p s
      unfolding spot_in
      told_at = rw (lt-leb (length p) 1 h, seek-held m hm ws ok (scope_of p) ∙ e)

    pub view : At ⊎ Away
    view = go (leb (length p) 1) refl
      where
        deep : (h : 1 < length p) (o : Split p) (s : Sought) → seek_f t.levels (scope_of p) 0 0 0 ≡ s
            → lacking 0 o.middle s (level_at 0 t.levels (scope_of p)) → At ⊎ Away
        deep h o (here k) e l =
            let f : Focus m.components (is_live t) t.levels 0 0 (scope_of p) 0 k 0 =
            subst (λ (q : List ℕ). Focus m.components (is_live t) t.levels 0 0 q 0 k 0) (sym o.scope)
            (focus m.components (is_live t) t.levels 0 0 o.first o.middle 0 0 k (whole m hm ws ok).forest (sym (ap (λ (q : List ℕ). seek_f t.levels q 0 0 0) o.scope) ∙ e)) in
            inl (record {
              more = h;
              at = k;
              level = f;
              told = told_at h (here k) e
                  ∙ ap (λ (b : List Binding). Ok (slot_spot k (slot_in (last_of p) b (counts (take k ls))))) (bindings-at m t (whole m hm ws ok) hm ls bs z y (levels-are m hm ws ok) (bindings-are m hm ws ok) (scope_of p) k f);
            })
        deep h o (before k) e l =
            inr (record {
              error = AmlError.LevelDoesNotExist (length p - 2);
              told = told_at h (before k) e;
              looked = lost-looked h (AmlError.LevelDoesNotExist (length p - 2)) same;
              tied = lost-tied h (AmlError.LevelDoesNotExist (length p - 2)) same;
            })
          where
            two : (n k : ℕ) → n ≡ suc (suc k) → 0 + k ≡ n - 2
            two n k h = omega arith

            same : level_at 0 t.levels (scope_of p) ≡ refuses 15 (length p - 2)
            same = l ∙ ap (refuses 15) (two (length p) (length o.middle) o.long)
        deep h o (missing n) e l =
            inr (record { error = AmlError.LevelDoesNotExist n; told = told_at h (missing n) e; looked = lost-looked h (AmlError.LevelDoesNotExist n) l; tied = lost-tied h (AmlError.LevelDoesNotExist n) l })

        go : (x : Bool) → leb (length p) 1 ≡ x → At ⊎ Away
        go true e = inr (root-away (leb-true (length p) 1 e))
        go false e =
            let h : 1 < length p = leb-false (length p) 1 e in
            let o = split-last p h in
            deep h o (seek_f t.levels (scope_of p) 0 0 0) refl
            (subst (λ (q : List ℕ). lacking 0 o.middle (seek_f t.levels q 0 0 0) (level_at 0 t.levels q)) (sym o.scope)
            (lacks m.components (is_live t) t.levels 0 0 o.first o.middle 0 0 (whole m hm ws ok).forest))

    -- the definitions, at the level that is there
    module _ (a : At) where
      at-looked : look_up_answer t p ≡ handle_in (last_of p) a.level.b
      unfolding look_up_answer
      at-looked = rw (lt-leb (length p) 1 a.more, a.level.found)

      at-tied : (h : ℕ) → bind m t p h ≡ cond (is_bound (last_of p) a.level.b) (refuses 17 0)
          (cond (leb m.bindings (length (bound t.levels))) (refuses 19 0) (gives (with_levels t (alter (with_binding (record { segment = last_of p; handle = h })) t.levels (scope_of p)))))
      unfolding bind
      at-tied h = rw (lt-leb (length p) 1 a.more, a.level.found)

    module _ (r : Result Spot AmlError) (e : r ≡ spot_in ls bs p) where
      pub spot-refused : (x : AmlError) → r ≡ Err x → (look_up_answer t p ≡ refused x) × ((h : ℕ) → bind m t p h ≡ refused x)
      spot-refused x d = ⊎_elim (λ a. not-refused a.at (slot_in (last_of p) a.level.b (counts (take a.at ls))) (sym a.told ∙ sym e ∙ d)) same view
        where
          same : Away → (look_up_answer t p ≡ refused x) × ((h : ℕ) → bind m t p h ≡ refused x)
          same a =
              let f : ◌≡◌ {A = Result Spot AmlError} (Err a.error) (Err x) = sym a.told ∙ sym e ∙ d in
              let g : a.error ≡ x = cc in
              (a.looked ∙ ap refused g, λ h. a.tied h ∙ ap refused g)

      pub spot-bound : (h : ℕ) → r ≡ Ok (Spot.Bound h) → (look_up_answer t p ≡ gives h) × ((x : ℕ) → bind m t p x ≡ refuses 17 0)
      spot-bound h d = ⊎_elim found (λ a. refused-bound (sym a.told ∙ sym e ∙ d)) view
        where
          found : At → (look_up_answer t p ≡ gives h) × ((x : ℕ) → bind m t p x ≡ refuses 17 0)
          found a =
              let s = slot-bound (last_of p) a.level.b (counts (take a.at ls)) h (slot-of-bound a.at (slot_in (last_of p) a.level.b (counts (take a.at ls))) (sym a.told ∙ sym e ∙ d)) in
              (at-looked a ∙ s.0, λ x. at-tied a x ∙ rw s.1)

      pub spot-live : (h : ℕ) → r ≡ Ok (Spot.Bound h) → is_live t h ≡ true
      spot-live h d = ⊎_elim found (λ a. refused-bound (sym a.told ∙ sym e ∙ d)) view
        where
          found : At → is_live t h ≡ true
          found a =
              slot-live (last_of p) (is_live t) 0 a.level.b (counts (take a.at ls)) h a.level.valid.0.ordered
              (slot-of-bound a.at (slot_in (last_of p) a.level.b (counts (take a.at ls))) (sym a.told ∙ sym e ∙ d))

      -- what is known where the segment is free
      pub record Open (at i : ℕ) : Type 0 where
        pub more : 1 < length p
        pub level : Focus m.components (is_live t) t.levels 0 0 (scope_of p) 0 at 0
        pub slot : slot_in (last_of p) level.b (counts (take at ls)) ≡ Err i
        pub looked : look_up_answer t p ≡ refuses 16 0
        pub tied : (h : ℕ) → bind m t p h ≡ cond (leb m.bindings (length (bound t.levels))) (refuses 19 0)
            (gives (with_levels t (alter (with_binding (record { segment = last_of p; handle = h })) t.levels (scope_of p))))

      pub spot-open : (at i : ℕ) → r ≡ Ok (Spot.Free (record { level = at; binding = i })) → Open at i
      spot-open at i d = ⊎_elim found (λ a. refused-free (sym a.told ∙ sym e ∙ d)) view
        where
          found : At → Open at i
          found a =
              subst (λ (n : ℕ). Open n i) s.1 (record { more = a.more; level = a.level; slot = s.0; looked = at-looked a ∙ x.none; tied = λ h. at-tied a h ∙ rw x.clear })
            where
              s : (slot_in (last_of p) a.level.b (counts (take a.at ls)) ≡ Err i) × (a.at ≡ at)
              s = slot-of-free a.at (slot_in (last_of p) a.level.b (counts (take a.at ls))) (sym a.told ∙ sym e ∙ d)

              x : FreeAt (last_of p) (is_live t) 0 (record { segment = last_of p; handle = 0 }) a.level.b (counts (take a.at ls)) i
              x = slot-free (last_of p) (is_live t) 0 (record { segment = last_of p; handle = 0 }) a.level.b (counts (take a.at ls)) i refl a.level.valid.0.ordered s.0
