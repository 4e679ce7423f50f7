-- A bare segment in memory, a path cut short, and a bare segment put behind it.
use mathlib.Core.Path.{◌≡◌, refl, ap, sym, ◌∙◌}
use mathlib.Core.Bool.{Bool, true, false, cond}
use mathlib.Core.List.{List, [], ◌∷◌, ◌++◌}
use Prim.Native.Nat.{ℕ, ◌-◌, ◌*◌, ◌<◌, ◌≤◌}
use native.Mathlib.Omega.{arith}
use lib.Dec.{leb, eqb}
use lib.ListN.{length, take, get_or}
use lib.Seq.{length-take-le, take-take}
use borrow.Author.Tests.{eqb-true}
use Rattle.name_object.specs.Component.{Component, root, up, seg, lead_ok, is_seg_ok}
use Rattle.name_object.specs.Memory.{name_of, kind_ok, component_of, components, bytes_ok, path_ok, path_of_name, pushed, popped}
use Rattle.name_object.specs.declared.AmlName.{AmlName}
use Rattle.pkg_length.proofs.Answers.{halves, never}
use Rattle.name_object.proofs.Paths.{name-whole, seg-lead}
use Rattle.name_object.proofs.Memory.{push-one}
use Rattle.path.proofs.Walks.{length-path}
use Rattle.name_object.proofs.Memory.{pop-last}
use Rattle.path.specs.Normal.{one_segment}
use Rattle.name_object.specs.declared.NameSeg.{NameSeg}
use Rattle.namespace.specs.Settled.{Settled, segment_of}

-- the test of one bare segment
alone-is-one : (cs : List Component) → one_segment cs ≡ true → length cs ≡ 1
alone-is-one [] h = never h
alone-is-one (root ∷ cs) h = never h
alone-is-one (up ∷ cs) h = never h
alone-is-one (seg a b c d ∷ []) h = refl
alone-is-one (seg a b c d ∷ x ∷ cs) h = never h

lead-root : lead_ok 0x5C ≡ false
unfolding lead_ok
lead-root = refl

lead_up : lead_ok 0x5E ≡ false
unfolding lead_ok
lead_up = refl

one-kind : (a b c d : ℕ) → kind_ok true a b c d ≡ true → lead_ok a ≡ one_segment (component_of a b c d ∷ [])
unfolding kind_ok component_of
one-kind a b c d h = go (eqb a 0x5C) (eqb a 0x5E) refl refl h
  where
    go : (s t : Bool) → eqb a 0x5C ≡ s → eqb a 0x5E ≡ t → cond s (cond true (Rattle.name_object.specs.Memory.bare b c d) false) (cond t (Rattle.name_object.specs.Memory.bare b c d) (is_seg_ok a b c d)) ≡ true
        → lead_ok a ≡ one_segment (cond s root (cond t up (seg a b c d)) ∷ [])
    go true t p q h = ap lead_ok (eqb-true a 0x5C p) ∙ lead-root
    go false true p q h = ap lead_ok (eqb-true a 0x5E q) ∙ lead_up
    go false false p q h = seg-lead a b c d h

bare-one : (limit : ℕ) (name : AmlName) → path_ok limit name ≡ true → name.count ≡ 1 → lead_ok (get_or name.bytes 0 0) ≡ one_segment (path_of_name name)
bare-one limit name h e = one-kind _ _ _ _ first ∙ ap one_segment (sym alone)
  where
    alone : path_of_name name ≡ component_of (get_or name.bytes 0 0) (get_or name.bytes 1 0) (get_or name.bytes 2 0) (get_or name.bytes 3 0) ∷ []
    alone = unfold path_of_name components in rw e

    first : kind_ok true (get_or name.bytes 0 0) (get_or name.bytes 1 0) (get_or name.bytes 2 0) (get_or name.bytes 3 0) ≡ true
    first = unfold path_ok bytes_ok in (halves (kind_ok true (get_or name.bytes 0 0) (get_or name.bytes 1 0) (get_or name.bytes 2 0) (get_or name.bytes 3 0)) _ (rw e at (halves (leb name.count limit) _ h).1)).0

bare-is : (name : AmlName) → name.count ≡ 1 → lead_ok (get_or name.bytes 0 0) ≡ true
    → path_of_name name ≡ seg (get_or name.bytes 0 0) (get_or name.bytes 1 0) (get_or name.bytes 2 0) (get_or name.bytes 3 0) ∷ []
bare-is name e h = alone ∙ ap (λ (x : Component). x ∷ []) (lead-seg _ _ _ _ h)
  where
    alone : path_of_name name ≡ component_of (get_or name.bytes 0 0) (get_or name.bytes 1 0) (get_or name.bytes 2 0) (get_or name.bytes 3 0) ∷ []
    alone = unfold path_of_name components in rw e

    lead-seg : (a b c d : ℕ) → lead_ok a ≡ true → component_of a b c d ≡ seg a b c d
    lead-seg a b c d h = unfold component_of in go (eqb a 0x5C) (eqb a 0x5E) refl refl
      where
        go : (s t : Bool) → eqb a 0x5C ≡ s → eqb a 0x5E ≡ t → cond s root (cond t up (seg a b c d)) ≡ seg a b c d
        go true t p q = never (sym lead-root ∙ sym (ap lead_ok (eqb-true a 0x5C p)) ∙ h)
        go false true p q = never (sym lead_up ∙ sym (ap lead_ok (eqb-true a 0x5E q)) ∙ h)
        go false false p q = refl

pub bare-segment : (limit : ℕ) (name : AmlName) → path_ok limit name ≡ true → one_segment (path_of_name name) ≡ true
    → path_of_name name ≡ seg (get_or name.bytes 0 0) (get_or name.bytes 1 0) (get_or name.bytes 2 0) (get_or name.bytes 3 0) ∷ []
bare-segment limit name h o =
    let e : name.count ≡ 1 = sym (length-path name) ∙ alone-is-one (path_of_name name) o in
    bare-is name e (bare-one limit name h e ∙ o)

-- cutting
pub cut-start : (limit : ℕ) (name : AmlName) → length name.bytes ≡ 4 * limit → Settled limit name → name ≡ name_of limit (take name.count (path_of_name name))
cut-start limit name hb s = sym (ap (name_of limit) (lib.Seq.take_all name.count (path_of_name name) (omega (arith, length-path name))) ∙ name-whole limit name hb s.path)

pub cut-turn : (limit : ℕ) (cs : List Component) (k : ℕ) (cut : AmlName) → 0 < k → k ≤ length cs → length cs ≤ limit → cut ≡ name_of limit (take k cs) → popped cut ≡ name_of limit (take (k - 1) cs)
cut-turn limit cs k cut z h l e =
    let n = length-take-le k cs h in
    ap popped e ∙ pop-last limit (take k cs) (omega arith) (omega arith)
    ∙ ap (name_of limit) (ap (λ (i : ℕ). take (i - 1) (take k cs)) n ∙ take-take (k - 1) k cs (omega arith))

pub cut-count : (limit : ℕ) (cs : List Component) (k : ℕ) (cut : AmlName) → k ≤ length cs → cut ≡ name_of limit (take k cs) → cut.count ≡ k
unfolding name_of
cut-count limit cs k cut h e = ap (λ (n : AmlName). n.count) e ∙ length-take-le k cs h

-- a segment behind what was cut
pub put-segment : (limit : ℕ) (cs : List Component) (n : ℕ) (segment : NameSeg) (cut : AmlName) → n ≤ length cs → n < limit → cut ≡ name_of limit (take n cs)
    → pushed cut (get_or segment.0 0 0) (get_or segment.0 1 0) (get_or segment.0 2 0) (get_or segment.0 3 0) ≡ name_of limit (take n cs ++ (segment_of segment ∷ []))
put-segment limit cs n segment cut l k e =
    ap (λ (x : AmlName). pushed x (get_or segment.0 0 0) (get_or segment.0 1 0) (get_or segment.0 2 0) (get_or segment.0 3 0)) e
    ∙ push-one limit (take n cs) (segment_of segment) _ _ _ _ (omega (arith, length-take-le n cs l)) refl
