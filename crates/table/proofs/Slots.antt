-- A segment among a level's bindings: the pass finds what the definitions say, and where a new binding goes.
use mathlib.Core.Path.{◌≡◌, refl, ap, sym, ◌∙◌}
use mathlib.Core.Logic.{◌⊎◌, inl, inr}
use mathlib.Core.Bool.{Bool, true, false, cond, ◌||◌}
use mathlib.Core.List.{List, [], ◌∷◌, ◌++◌, map}
use Prim.Native.Nat.{ℕ, zero, suc, ◌+◌, ◌-◌, ◌/◌, ◌%◌, ◌<◌, ◌≤◌, ◌^◌}
use native.Mathlib.Omega.{arith}
use lib.Dec.{ltb, eqb}
use lib.ListN.{length, take, drop, get_or, length-drop, drop_of_length-le}
use lib.Seq.{drop-cons, get_or-take, get_or-drop, length-take-le}
use borrow.Author.Tests.{ltb-true, ltb-false, eqb-false, lt-ltb, le-ltb, eq-eqb, ne_eqb}
use Rattle.pkg_length.proofs.Answers.{wrong}
use Rattle.pkg_length.specs.Refusal.{gives, refuses}
use Rattle.table.proofs.Shape.{BindingTests, binding-tests, tests-binding}
use Rattle.table.specs.Tree.{Binding}
use Rattle.table.specs.Layout.{binding_of}
use Rattle.table.specs.Valid.{segment_ok, rising}
use Rattle.table.specs.Edits.{handle_in, is_bound, insert_binding}
use Rattle.std.specs.Prelude.{Result, Ok, Err}
use Rattle.table.specs.Inside.{slot_in, Rising}
use Rattle.std.specs.List.Sorted.{IsBinarySearchResult, IsNonDecreasingBy}
use Rattle.std.specs.Ordering.{nat_cmp, ordering_index}
use Rattle.std.proofs.lemmas.Cmp.{ranked}
use Rattle.std.proofs.lemmas.List.Sorted.{IsNonDecreasingBy-from_default}
use Rattle.std.proofs.lemmas.Bool.Decides.{nat_tests}
use Rattle.table.proofs.Facts.{plus-zero, lt-or-le}

-- more handles
pub rising-more : (live more : ℕ → Bool) (lo : ℕ) (bs : List Binding) → ((h : ℕ) → live h ≡ true → more h ≡ true) → rising live lo bs ≡ true → rising more lo bs ≡ true
rising-more live more lo [] f e = unfold rising in refl
rising-more live more lo (b ∷ bs) f e =
    let t = binding-tests live lo b bs e in
    tests-binding more lo b bs (record { rises = t.rises; named = t.named; alive = f b.handle t.alive; later = rising-more live more (suc b.segment) bs f t.later })

bound-free : {T : Type 0} {h i : ℕ} → ◌≡◌ {A = Result ℕ ℕ} (Ok h) (Err i) → T
bound-free e = absurd (let z : ◌≡◌ {A = ℕ} 0 1 = cc in omega arith)

-- a segment that is bound
module _ (s : ℕ) where
  pub slot-bound : (b : List Binding) (i h : ℕ) → slot_in s b i ≡ Ok h → (handle_in s b ≡ gives h) × (is_bound s b ≡ true)
  unfolding slot_in handle_in is_bound
  slot-bound [] i h e = bound-free (sym e)
  slot-bound (b ∷ bs) i h e = go (slot-bound bs (suc i) h) (eqb b.segment s) (ltb s b.segment) e
    where
      go : (slot_in s bs (suc i) ≡ Ok h → (handle_in s bs ≡ gives h) × (is_bound s bs ≡ true))
          → (x y : Bool) → cond x (Ok b.handle) (cond y (Err i) (slot_in s bs (suc i))) ≡ Ok h
          → (cond x (gives b.handle) (handle_in s bs) ≡ gives h) × (x || is_bound s bs ≡ true)
      go f true y e = (let d : b.handle ≡ h = cc in ap gives d, refl)
      go f false true e = bound-free (sym e)
      go f false false e = f e

  -- what it is bound to is a handle that was handed out
  pub slot-live : (live : ℕ → Bool) (lo : ℕ) (b : List Binding) (i h : ℕ) → rising live lo b ≡ true → slot_in s b i ≡ Ok h → live h ≡ true
  unfolding slot_in
  slot-live live lo [] i h r e = bound-free (sym e)
  slot-live live lo (b ∷ bs) i h r e =
      let t = binding-tests live lo b bs r in
      go t.alive (slot-live live (suc b.segment) bs (suc i) h t.later) (eqb b.segment s) (ltb s b.segment) e
    where
      go : live b.handle ≡ true → (slot_in s bs (suc i) ≡ Ok h → live h ≡ true)
          → (x y : Bool) → cond x (Ok b.handle) (cond y (Err i) (slot_in s bs (suc i))) ≡ Ok h → live h ≡ true
      go l f true y e = let d : b.handle ≡ h = cc in rw d at l
      go l f false true e = bound-free (sym e)
      go l f false false e = f e

  -- a segment below all of them is none of them
  late_free : (live : ℕ → Bool) (lo : ℕ) (b : List Binding) → rising live lo b ≡ true → s < lo → (handle_in s b ≡ refuses 16 0) × (is_bound s b ≡ false)
  unfolding handle_in is_bound
  late_free live lo [] r h = (refl, refl)
  late_free live lo (b ∷ bs) r h =
      let t = binding-tests live lo b bs r in
      rw (ne_eqb b.segment s (λ e. omega (arith, t.rises))) (late_free live (suc b.segment) bs t.later (omega (arith, t.rises)))

  -- a segment that is not: where it goes
  pub record FreeAt (live : ℕ → Bool) (lo : ℕ) (x : Binding) (b : List Binding) (i j : ℕ) : Type 0 where
    pub front : List Binding
    pub back : List Binding
    pub parts : b ≡ front ++ back
    pub at : j ≡ i + length front
    pub put : insert_binding x b ≡ front ++ (x ∷ back)
    pub none : handle_in s b ≡ refuses 16 0
    pub clear : is_bound s b ≡ false
    pub up : segment_ok s ≡ true → live x.handle ≡ true → lo ≤ s → rising live lo (insert_binding x b) ≡ true

  pub slot-free : (live : ℕ → Bool) (lo : ℕ) (x : Binding) (b : List Binding) (i j : ℕ) → x.segment ≡ s → rising live lo b ≡ true → slot_in s b i ≡ Err j → FreeAt live lo x b i j
  unfolding slot_in handle_in is_bound insert_binding
  slot-free live lo x [] i j q r e =
      let d : i ≡ j = cc in
      record {
        front = [];
        back = [];
        parts = refl;
        at = omega arith;
        put = refl;
        none = refl;
        clear = refl;
        up = λ n h l. tests-binding live lo x [] (record { rises = rw q l; named = rw q n; alive = h; later = unfold rising in refl });
      }
  slot-free live lo x (b ∷ bs) i j q r e =
      let t = binding-tests live lo b bs r in
      go t (slot-free live (suc b.segment) x bs (suc i) j q t.later) (eqb b.segment s) (ltb s b.segment) refl refl e
    where
      same : ltb x.segment b.segment ≡ ltb s b.segment
      same = ap (λ (n : ℕ). ltb n b.segment) q

      go : BindingTests live lo b bs → (slot_in s bs (suc i) ≡ Err j → FreeAt live (suc b.segment) x bs (suc i) j)
          → (c d : Bool) → eqb b.segment s ≡ c → ltb s b.segment ≡ d → cond c (Ok b.handle) (cond d (Err i) (slot_in s bs (suc i))) ≡ Err j
          → FreeAt live lo x (b ∷ bs) i j
      go t f true d p y e = bound-free e
      go t f false true p y e =
          let d : i ≡ j = cc in
          let l = late_free live (suc b.segment) bs t.later (omega (arith, ltb-true s b.segment y)) in
          record {
            front = [];
            back = b ∷ bs;
            parts = refl;
            at = omega arith;
            put = rw (same, y);
            none = rw p l.0;
            clear = rw p l.1;
            up = λ n h k. rw (same, y) (tests-binding live lo x (b ∷ bs)
                (record {
                  rises = rw q k;
                  named = rw q n;
                  alive = h;
                  later = tests-binding live (suc x.segment) b bs (record { rises = omega (arith, q, ltb-true s b.segment y); named = t.named; alive = t.alive; later = t.later });
                }));
          }
      go t f false false p y e =
          let g = f e in
          record {
            front = b ∷ g.front;
            back = g.back;
            parts = ap (λ (l : List Binding). b ∷ l) g.parts;
            at = omega (arith, g.at);
            put = rw (same, y) (ap (λ (l : List Binding). b ∷ l) g.put);
            none = rw p g.none;
            clear = rw p g.clear;
            up = λ n h k. rw (same, y) (tests-binding live lo b _ (record { rises = t.rises; named = t.named; alive = t.alive; later = g.up n h (omega (arith, ltb-false s b.segment y, eqb-false b.segment s p)) }));
          }

-- a segment that is not bound has its place
pub free-slot : (s : ℕ) (live : ℕ → Bool) (x : Binding) (b : List Binding) (i : ℕ) → x.segment ≡ s → rising live 0 b ≡ true → is_bound s b ≡ false → (j : ℕ) × FreeAt s live 0 x b i j
free-slot s live x b i q r n = go (slot_in s b i) refl
  where
    go : (a : Result ℕ ℕ) → slot_in s b i ≡ a → (j : ℕ) × FreeAt s live 0 x b i j
    go (Ok h) e = wrong (slot-bound s b i h e).1 n
    go (Err j) e = (j, slot-free s live 0 x b i j q r e)

-- smaller segments are passed over
slot-passed : (s f i : ℕ) (l : List ℕ) → i ≤ length l → ((j : ℕ) → j < i → get_or l j 0 / 2 ^ 32 < s) → slot_in s (map binding_of (drop i l)) (f + i) ≡ slot_in s (map binding_of l) f
unfolding slot_in
slot-passed s f zero l h b = ap (slot_in s (map binding_of l)) (sym (plus-zero f))
slot-passed s f (suc i) [] h b = absurd (omega arith)
slot-passed s f (suc i) (w ∷ l) h b = ap (slot_in s (map binding_of (drop i l))) (more f i) ∙ slot-passed s (suc f) i l (omega arith) (λ j k. b (suc j) (omega arith)) ∙ on (b 0 (omega arith))
  where
    more : (f i : ℕ) → f + suc i ≡ suc f + i
    more f i = omega arith

    on : w / 2 ^ 32 < s → slot_in s (map binding_of l) (suc f) ≡ slot_in s (map binding_of (w ∷ l)) f
    on x = sym (rw (ne_eqb (w / 2 ^ 32) s (λ e. omega arith), le-ltb s (w / 2 ^ 32) (omega arith)))

-- what a search by halves tells of words whose segments rise
module _ (s f : ℕ) (l : List ℕ) (rises : (i j : ℕ) → i < j → j < length l → get_or l i 0 / 2 ^ 32 < get_or l j 0 / 2 ^ 32) where
  comparisons-rise : IsNonDecreasingBy (λ w. ordering_index (nat_cmp (w / 2 ^ 32) s)) l
  comparisons-rise = IsNonDecreasingBy-from_default (λ w. ordering_index (nat_cmp (w / 2 ^ 32) s)) l 0 (λ i j le in_range.
      let up : get_or l i 0 / 2 ^ 32 ≤ get_or l j 0 / 2 ^ 32 = grind (arith, rises i j, λ (same : i ≡ j). ap (λ (k : ℕ). get_or l k 0 / 2 ^ 32) same) in
      grind (arith, nat_tests))

  pub slot-searched : (i : ℕ) → i < length l → IsBinarySearchResult (λ w. nat_cmp (w / 2 ^ 32) s) l (Ok i) → Ok (get_or l i 0 % 2 ^ 32) ≡ slot_in s (map binding_of l) f
  unfolding slot_in
  slot-searched i h equal =
      let e : get_or l i 0 / 2 ^ 32 ≡ s = ranked _ s _ (sym (equal 0)) in
      sym (rw (drop-cons l i 0 h, eq-eqb (get_or l i 0 / 2 ^ 32) s e)) ∙ slot-passed s f i l (omega arith) (λ j k. omega (arith, rises j i k h))

  pub slot-missed : (i : ℕ) → i ≤ length l → IsBinarySearchResult (λ w. nat_cmp (w / 2 ^ 32) s) l (Err i) → Err (f + i) ≡ slot_in s (map binding_of l) f
  unfolding slot_in
  slot-missed i h parted = stop (lt-or-le i (length l)) ∙ slot-passed s f i l h (λ j k. ranked _ s _ (sym ((parted comparisons-rise).0 j 0 (omega arith) k)))
    where
      stop : (i < length l) ⊎ (length l ≤ i) → Err (f + i) ≡ slot_in s (map binding_of (drop i l)) (f + i)
      stop (inl k) =
          let above : s < get_or l i 0 / 2 ^ 32 = ranked _ s _ (sym ((parted comparisons-rise).1 i 0 (omega arith) k)) in
          sym (rw (drop-cons l i 0 k, ne_eqb (get_or l i 0 / 2 ^ 32) s (λ e. omega arith), lt-ltb s (get_or l i 0 / 2 ^ 32) above))
      stop (inr k) = sym (rw (drop_of_length-le l k))

-- a level's own words rise
pub own-rise : (bs : List ℕ) (f n : ℕ) → f + n ≤ length bs → Rising bs f n → (i j : ℕ) → i < j → j < length (take n (drop f bs)) → get_or (take n (drop f bs)) i 0 / 2 ^ 32 < get_or (take n (drop f bs)) j 0 / 2 ^ 32
own-rise bs f n h r i j a b =
    let k : j < n = omega (arith, length-take-le n (drop f bs) (omega (arith, length-drop f bs))) in
    rw (at i (omega arith), at j k) (r (f + i) (f + j) (omega arith) (omega arith) (omega arith))
  where
    at : (x : ℕ) → x < n → get_or (take n (drop f bs)) x 0 ≡ get_or bs (f + x) 0
    at x y = get_or-take n (drop f bs) x 0 y ∙ get_or-drop f bs x 0

-- a level's bindings rise
module _ (live : ℕ → Bool) where
  rising-low : (lo : ℕ) (l : List ℕ) (j : ℕ) → rising live lo (map binding_of l) ≡ true → j < length l → lo ≤ get_or l j 0 / 2 ^ 32
  rising-low lo [] j r h = absurd (omega arith)
  rising-low lo (w ∷ l) zero r h = (binding-tests live lo (binding_of w) (map binding_of l) r).rises
  rising-low lo (w ∷ l) (suc j) r h =
      let t = binding-tests live lo (binding_of w) (map binding_of l) r in
      omega (arith, t.rises, rising-low (suc (w / 2 ^ 32)) l j t.later (omega arith))

  rising-words : (lo : ℕ) (l : List ℕ) (i j : ℕ) → rising live lo (map binding_of l) ≡ true → i < j → j < length l → get_or l i 0 / 2 ^ 32 < get_or l j 0 / 2 ^ 32
  rising-words lo [] i j r h k = absurd (omega arith)
  rising-words lo (w ∷ l) i zero r h k = absurd (omega arith)
  rising-words lo (w ∷ l) zero (suc j) r h k = rising-low (suc (w / 2 ^ 32)) l j (binding-tests live lo (binding_of w) (map binding_of l) r).later (omega arith)
  rising-words lo (w ∷ l) (suc i) (suc j) r h k = rising-words (suc (w / 2 ^ 32)) l i j (binding-tests live lo (binding_of w) (map binding_of l) r).later (omega arith) (omega arith)

  pub slots-rise : (bs : List ℕ) (f n : ℕ) → f + n ≤ length bs → rising live 0 (map binding_of (take n (drop f bs))) ≡ true → Rising bs f n
  slots-rise bs f n h r i j a b c =
      rw (at i a (omega arith), at j (omega arith) c)
      (rising-words 0 (take n (drop f bs)) (i - f) (j - f) r (omega arith) (omega (arith, length-take-le n (drop f bs) (omega (arith, length-drop f bs)))))
    where
      there : (f x : ℕ) → f ≤ x → x ≡ f + (x - f)
      there f x h = omega arith

      at : (x : ℕ) → f ≤ x → x < f + n → get_or bs x 0 ≡ get_or (take n (drop f bs)) (x - f) 0
      at x g y = ap (λ (k : ℕ). get_or bs k 0) (there f x g) ∙ sym (get_or-take n (drop f bs) (x - f) 0 (omega arith) ∙ get_or-drop f bs (x - f) 0)
