-- What lookup, a value more and an alias leave in memory and say, by where the path's last segment is.
use mathlib.Core.Path.{◌≡◌, refl, ap, ap₂, sym, ◌∙◌}
use mathlib.Core.Bool.{true}
use mathlib.Core.List.{List, [], ◌∷◌, ◌++◌}
use Prim.Native.Nat.{ℕ, ◌+◌, ◌*◌, ◌-◌, ◌<◌, ◌≤◌, ◌^◌}
use native.Mathlib.Omega.{arith}
use lib.ListN.{length, take, drop, get_or, set}
use lib.Seq.{get_or-take, get_or-drop}
use borrow.Author.Tests.{lt-leb, le-leb}
use Rattle.pkg_length.specs.Refusal.{Answer, gives, refuses, refused}
use Rattle.pkg_length.specs.declared.AmlError.{AmlError}
use Rattle.table.specs.Limits.{Limits}
use Rattle.table.specs.Tree.{Tree, bound}
use Rattle.table.specs.Layout.{encode}
use Rattle.table.specs.Memory.{is_well_formed, decode, size, Edited, left}
use Rattle.table.specs.Edits.{alter, scope_of, last_of, with_binding, with_levels, with_objects, next_handle, look_up_answer, bind, add_value_answer, add_alias_answer}
use Rattle.namespace.specs.Inside.{Spare}
use Rattle.table.specs.Inside.{spot_in, bind_words}
use Rattle.std.specs.Prelude.{Result, Ok, Err}
use Rattle.table.specs.declared.inner.Place.{Place}
use Rattle.table.specs.declared.inner.Spot.{Spot}
use Rattle.table.proofs.Objects.{long, made-is}
use Rattle.table.proofs.Held.{bindings-room, bindings-full}
use Rattle.table.proofs.BindCalls.{spot-refused, spot-bound, spot-open, Open}
use Rattle.table.proofs.BindWords.{bind-place, word_low, bind-length, bind-full, bind-room, bound-words, value-words}

module _ {A : Type 0} (m : Limits) (ws : List ℕ) where
  given : (us : List ℕ) (t : Tree) (x : A) (a : Answer (Edited A)) → a ≡ gives (record { tree = t; value = x }) → us ≡ encode m t → record { words = us; said = gives x } ≡ left m ws a
  given us t x a e f = rw e (λ i. record { words = f i; said = gives x })

  kept : (n q : ℕ) (a : Answer (Edited A)) → a ≡ refuses n q → record { words = ws; said = refuses n q } ≡ left m ws a
  kept n q a e = rw e

-- a value more, once its binding is known
module _ (m : Limits) (t : Tree) (p : List ℕ) (v : ℕ) where
  add-refused : (n q : ℕ) → bind m t p (next_handle t) ≡ refuses n q → add_value_answer m t p v ≡ refuses n q
  unfolding add_value_answer
  add-refused n q e = rw e

  add-full : (u : Tree) → bind m t p (next_handle t) ≡ gives u → m.objects ≤ length t.objects → add_value_answer m t p v ≡ refuses 20 0
  unfolding add_value_answer
  add-full u e l = rw (e, le-leb m.objects (length t.objects) l)

  add-given : (u : Tree) → bind m t p (next_handle t) ≡ gives u → length t.objects < m.objects
      → add_value_answer m t p v ≡ gives (record { tree = with_objects u (t.objects ++ (v ∷ [])); value = length t.objects })
  unfolding add_value_answer
  add-given u e l = rw (e, lt-leb m.objects (length t.objects) l)

module _ (m : Limits) (t : Tree) (p q : List ℕ) where
  alias-aim : (n k : ℕ) → look_up_answer t q ≡ refuses n k → add_alias_answer m t p q ≡ refuses n k
  unfolding add_alias_answer
  alias-aim n k e = rw e

  alias-refused : (h n k : ℕ) → look_up_answer t q ≡ gives h → bind m t p h ≡ refuses n k → add_alias_answer m t p q ≡ refuses n k
  unfolding add_alias_answer
  alias-refused h n k e f = rw (e, f)

  alias-made : (h : ℕ) (u : Tree) → look_up_answer t q ≡ gives h → bind m t p h ≡ gives u → add_alias_answer m t p q ≡ gives (record { tree = u; value = h })
  unfolding add_alias_answer
  alias-made h u e f = rw (e, f)

module _ (m : Limits) (hm : m.objects ≤ 2 ^ 32) (ws : List ℕ) (ok : is_well_formed m ws ≡ true) where
  module _ (z : 0 < m.bindings) where
    last_word : get_or (take m.bindings (drop m.levels ws)) (m.bindings - 1) 0 ≡ get_or ws (m.levels + (m.bindings - 1)) 0
    last_word = get_or-take m.bindings (drop m.levels ws) (m.bindings - 1) 0 (omega arith) ∙ get_or-drop m.levels ws (m.bindings - 1) 0

    room : get_or ws (m.levels + (m.bindings - 1)) 0 ≡ 0 → length (bound (decode m ws).levels) < m.bindings
    room e = bindings-room m hm ws ok z (last_word ∙ e)

    full : (get_or ws (m.levels + (m.bindings - 1)) 0 ≡ 0 → ⊥) → m.bindings ≤ length (bound (decode m ws).levels)
    full e = bindings-full m hm ws ok z (λ x. e (sym last_word ∙ x))

  module _ (p : List ℕ) (r : Result Spot AmlError) (e : r ≡ spot_in (take m.levels ws) (take m.bindings (drop m.levels ws)) p) where
    -- lookup
    pub looked-bound : (h : ℕ) → r ≡ Ok (Spot.Bound h) → gives h ≡ look_up_answer (decode m ws) p
    looked-bound h d = sym (spot-bound m hm ws ok p r e h d).0

    pub looked-free : (at : Place) → r ≡ Ok (Spot.Free at) → refuses 16 0 ≡ look_up_answer (decode m ws) p
    looked-free at d = sym (spot-open m hm ws ok p r e at.level at.binding d).looked

    pub looked-refused : (x : AmlError) → r ≡ Err x → refused x ≡ look_up_answer (decode m ws) p
    looked-refused x d = sym (spot-refused m hm ws ok p r e x d).0

    -- no room for a name, whatever it would be bound to
    pub room-refused : (x : AmlError) → r ≡ Err x → (h : ℕ) → bind m (decode m ws) p h ≡ refused x
    room-refused x d = (spot-refused m hm ws ok p r e x d).1

    pub room_bound : (h : ℕ) → r ≡ Ok (Spot.Bound h) → (x : ℕ) → bind m (decode m ws) p x ≡ refuses 17 0
    room_bound h d = (spot-bound m hm ws ok p r e h d).1

    pub room-full : (at : Place) → r ≡ Ok (Spot.Free at) → 0 < m.bindings → (get_or ws (m.levels + (m.bindings - 1)) 0 ≡ 0 → ⊥) → (h : ℕ) → bind m (decode m ws) p h ≡ refuses 19 0
    room-full at d z f = bind-full m hm ws ok p r e at.level at.binding (spot-open m hm ws ok p r e at.level at.binding d) (full z f)

  -- the name bound there
  module _ (p : List ℕ) (at : Place) (s : Spare m ws p at) where
    abbrev a : ℕ
    a = at.level

    abbrev i : ℕ
    i = at.binding

    abbrev spot : Result Spot AmlError
    spot = Ok (Spot.Free at)

    opened : Open m hm ws ok p spot (sym s.free) a i
    opened = spot-open m hm ws ok p spot (sym s.free) a i refl

    pub spare-long : 1 < length p
    spare-long = opened.more

    pub spare-place : (a < m.levels) × (i ≤ m.bindings)
    spare-place = bind-place m hm ws ok p spot (sym s.free) a i opened

    pub spare-word : m.components ≤ 256 → get_or ws a 0 + 2 ^ 32 < 2 ^ 64
    spare-word = word_low m hm ws ok p spot (sym s.free) a i opened

    module _ (z : 0 < m.bindings) (h : ℕ) where
      tied : bind m (decode m ws) p h ≡ gives (with_levels (decode m ws) (alter (with_binding (record { segment = last_of p; handle = h })) (decode m ws).levels (scope_of p)))
      tied = bind-room m hm ws ok p spot (sym s.free) a i opened (room z s.last) h

      pub aliased : (q : List ℕ) → gives h ≡ look_up_answer (decode m ws) q → (us : List ℕ) → us ≡ bind_words m ws a i (last_of p * 2 ^ 32 + h)
          → record { words = us; said = gives h } ≡ left m ws (add_alias_answer m (decode m ws) p q)
      aliased q g us u =
          given m ws us _ h (add_alias_answer m (decode m ws) p q) (alias-made m (decode m ws) p q h _ (sym g) tied)
          (u ∙ bound-words m hm ws ok p spot (sym s.free) a i opened (room z s.last) h)

    module _ (z : 0 < m.bindings) (v : ℕ) where
      pub valued-none : m.objects ≤ get_or ws (m.levels + m.bindings) 0 → record { words = ws; said = refuses 20 0 } ≡ left m ws (add_value_answer m (decode m ws) p v)
      valued-none l = kept m ws 20 0 (add_value_answer m (decode m ws) p v) (add-full m (decode m ws) p v _ (tied z (length (decode m ws).objects)) (rw (made-is m hm ws ok) at l))

      pub valued : get_or ws (m.levels + m.bindings) 0 < m.objects → (us : List ℕ) → us ≡ bind_words m ws a i (last_of p * 2 ^ 32 + get_or ws (m.levels + m.bindings) 0)
          → record {
            words = set (set us (m.levels + m.bindings + 1 + get_or ws (m.levels + m.bindings) 0) v) (m.levels + m.bindings) (get_or ws (m.levels + m.bindings) 0 + 1);
            said = gives (get_or ws (m.levels + m.bindings) 0);
          } ≡ left m ws (add_value_answer m (decode m ws) p v)
      valued l us u =
          ap₂ (λ (x : List ℕ) (n : ℕ). record { words = set (set x (m.levels + m.bindings + 1 + n) v) (m.levels + m.bindings) (n + 1); said = gives n })
          (u ∙ ap (λ (n : ℕ). bind_words m ws a i (last_of p * 2 ^ 32 + n)) (made-is m hm ws ok)) (made-is m hm ws ok)
          ∙ given m ws _ _ (length (decode m ws).objects) (add_value_answer m (decode m ws) p v) (add-given m (decode m ws) p v _ (tied z (length (decode m ws).objects)) live)
          (value-words m hm ws ok p spot (sym s.free) a i opened (room z s.last) (length (decode m ws).objects) v live)
        where
          live : length (decode m ws).objects < m.objects
          live = rw (made-is m hm ws ok) at l

  pub bound-length : (us : List ℕ) (a i x : ℕ) → us ≡ bind_words m ws a i x → length us ≡ size m
  bound-length us a i x u = ap length u ∙ bind-length m ws a i x ∙ long m hm ws ok

  -- no room for it
  module _ (p : List ℕ) (x : AmlError) (f : (h : ℕ) → bind m (decode m ws) p h ≡ refused x) where
    pub valued-refused : (v : ℕ) → record { words = ws; said = refused x } ≡ left m ws (add_value_answer m (decode m ws) p v)
    valued-refused v = kept m ws _ _ (add_value_answer m (decode m ws) p v) (add-refused m (decode m ws) p v _ _ (f (next_handle (decode m ws))))

    pub aliased-refused : (q : List ℕ) (h : ℕ) → gives h ≡ look_up_answer (decode m ws) q → record { words = ws; said = refused x } ≡ left m ws (add_alias_answer m (decode m ws) p q)
    aliased-refused q h g = kept m ws _ _ (add_alias_answer m (decode m ws) p q) (alias-refused m (decode m ws) p q h _ _ (sym g) (f h))

  pub aliased-aim : (p q : List ℕ) (x : AmlError) → refused x ≡ look_up_answer (decode m ws) q → record { words = ws; said = refused x } ≡ left m ws (add_alias_answer m (decode m ws) p q)
  aliased-aim p q x d = kept m ws _ _ (add_alias_answer m (decode m ws) p q) (alias-aim m (decode m ws) p q _ _ (sym d))
