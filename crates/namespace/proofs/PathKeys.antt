-- A path's keys: what the records have for its components.
use mathlib.Core.Path.{◌≡◌, refl, ap, sym, subst, ◌∙◌}
use mathlib.Core.Bool.{Bool, true, false, cond}
use mathlib.Core.List.{List, [], ◌∷◌, ◌++◌}
use Prim.Native.Nat.{ℕ, zero, suc, ◌+◌, ◌*◌, ◌^◌, ◌<◌, ◌≤◌}
use native.Mathlib.Omega.{arith}
use native.Mathlib.Numerals.{add-one}
use lib.Dec.{ltb}
use lib.ListN.{length, take, get_or, set}
use lib.Seq.{take-suc, take-suc-set, take_all}
use borrow.Author.Tests.{ltb-true, ltb-false}
use Rattle.pkg_length.proofs.Answers.{halves, never, refuses-not, gives_same}
use Rattle.pkg_length.specs.Refusal.{Answer, gives, refuses, and_then}
use Rattle.name_object.specs.Component.{Component, root, up, seg, is_seg_ok, fine, spell_one}
use Rattle.name_object.specs.Memory.{named, name_of, path_ok, path_of_name, path_in_answer}
use Rattle.name_object.specs.declared.AmlName.{AmlName}
use Rattle.name_object.proofs.Paths.{path-fine, fine-path, name-whole}
use Rattle.path.specs.Normal.{absolute, is_normal_path, normal, resolved}
use Rattle.path.proofs.Answers.{named-given}
use Rattle.path.proofs.Laws.{Kept, kept-view, normal-kept, resolved-kept}
use Rattle.path.proofs.Walks.{length-path, byte_at}
use Rattle.table.specs.Tree.{number, key, keys}
use Rattle.table.specs.Valid.{segment_ok}
use Rattle.table.proofs.Numbers.{number_ok, number-low}
use Rattle.namespace.specs.Calls.{settled, settled_keys, resolved_keys}
use Rattle.table.specs.Inside.{Keyed}
use Rattle.namespace.specs.Settled.{Settled}
use Rattle.table.proofs.Near.{length-keys}

key-get_or : (cs : List Component) (i : ℕ) → get_or (keys cs) i 0 ≡ key (get_or cs i up)
unfolding keys
key-get_or [] i = refl
key-get_or (c ∷ cs) zero = refl
key-get_or (c ∷ cs) (suc i) = key-get_or cs i

-- segments alone
pub record SegAt (x : Component) : Type 0 where
  pub a : ℕ
  pub b : ℕ
  pub c : ℕ
  pub d : ℕ
  pub is : x ≡ seg a b c d
  pub ok : is_seg_ok a b c d ≡ true

segs-at : (es : List Component) (i : ℕ) → fine false es ≡ true → is_normal_path es ≡ true → i < length es → SegAt (get_or es i up)
unfolding fine
segs-at [] i f n h = absurd (omega arith)
segs-at (root ∷ es) i f n h = never f
segs-at (up ∷ es) i f n h = never n
segs-at (seg a b c d ∷ es) zero f n h = record { a = a; b = b; c = c; d = d; is = refl; ok = (halves (is_seg_ok a b c d) (fine false es) f).0 }
segs-at (seg a b c d ∷ es) (suc i) f n h = segs-at es i (halves (is_seg_ok a b c d) (fine false es) f).1 n (omega arith)

module _ (limit : ℕ) (cs : List Component) (k : Kept limit cs) where
  pub seg-at : (i : ℕ) → 0 < i → i < length cs → SegAt (get_or cs i up)
  seg-at zero z h = absurd (omega arith)
  seg-at (suc i) z h =
      let v = kept-view limit cs k in
      subst (λ (l : List Component). SegAt (get_or l (suc i) up)) (sym v.1) (segs-at v.0 i v.2 v.3 (omega (arith, ap length v.1)))

  pub root-at : get_or cs 0 up ≡ root
  root-at = ap (λ (l : List Component). get_or l 0 up) (kept-view limit cs k).1

  pub some-kept : 0 < length cs
  some-kept = omega (arith, ap length (kept-view limit cs k).1)

  pub key-first : get_or (keys cs) 0 0 ≡ 0
  key-first = key-get_or cs 0 ∙ ap key root-at

  pub key-ok : (i : ℕ) → 0 < i → i < length cs → segment_ok (get_or (keys cs) i 0) ≡ true
  key-ok i z h =
      let s = seg-at i z h in
      rw (key-get_or cs i, s.is) (number_ok s.a s.b s.c s.d s.ok)

  key-low : (i : ℕ) → get_or (keys cs) i 0 < 2 ^ 32
  key-low i = go i (ltb i (length cs)) refl
    where
      out : (l : List ℕ) (i : ℕ) → length l ≤ i → get_or l i 0 ≡ 0
      out [] i h = refl
      out (x ∷ l) zero h = absurd (omega arith)
      out (x ∷ l) (suc i) h = out l i (omega arith)

      go : (i : ℕ) (t : Bool) → ltb i (length cs) ≡ t → get_or (keys cs) i 0 < 2 ^ 32
      go zero t e = rw key-first (omega arith)
      go (suc i) true e =
          let s = seg-at (suc i) (omega arith) (ltb-true (suc i) (length cs) e) in
          rw (key-get_or cs (suc i), s.is) (omega (arith, number-low s.a s.b s.c s.d))
      go (suc i) false e = rw (out (keys cs) (suc i) (omega (arith, length-keys cs, ltb-false (suc i) (length cs) e))) (omega arith)

  pub kept-keyed : Keyed limit (keys cs)
  kept-keyed = record { short = omega (arith, length-keys cs, k.room); low = key-low }

-- memory that holds a settled path
pub settled-kept : (limit : ℕ) (name : AmlName) → Settled limit name → Kept limit (path_of_name name)
settled-kept limit name s =
    let f = path-fine limit name s.path in
    record { rooted = s.rooted; plain = s.plain; good = f.0; room = omega (arith, f.1, length-path name) }

pub settled-count : (limit : ℕ) (name : AmlName) → Settled limit name → (0 < name.count) × (name.count ≤ limit)
settled-count limit name s = omega (arith, some-kept limit (path_of_name name) (settled-kept limit name s), length-path name, (settled-kept limit name s).room)

pub seg-number : (x : Component) (a b c d : ℕ) → SegAt x → spell_one x ≡ a ∷ b ∷ c ∷ d ∷ [] → key x ≡ number a b c d
seg-number x a b c d s e =
    let f : s.a ∷ s.b ∷ s.c ∷ s.d ∷ [] ≡ a ∷ b ∷ c ∷ d ∷ [] = sym (ap spell_one s.is) ∙ e in
    let e₁ : s.a ≡ a = cc in
    let e₂ : s.b ≡ b = cc in
    let e₃ : s.c ≡ c = cc in
    let e₄ : s.d ≡ d = cc in
    ap key s.is ∙ (λ i. number (e₁ i) (e₂ i) (e₃ i) (e₄ i))

-- the loop that makes the keys: the first i are the path's
module _ (limit : ℕ) (name : AmlName) (hb : length name.bytes ≡ 4 * limit) (s : Settled limit name) where
  key-bytes : (i : ℕ) → 0 < i → i < name.count
      → get_or (keys (path_of_name name)) i 0 ≡ number (get_or name.bytes (4 * i) 0) (get_or name.bytes (4 * i + 1) 0) (get_or name.bytes (4 * i + 2) 0) (get_or name.bytes (4 * i + 3) 0)
  key-bytes i z h =
      key-get_or (path_of_name name) i
      ∙ seg-number (get_or (path_of_name name) i up) _ _ _ _ (seg-at limit (path_of_name name) (settled-kept limit name s) i z (omega (arith, length-path name))) (byte_at limit name i (record { size = hb; ok = s.path }) h)

  pub keys-turn : (ks : List ℕ) (i x : ℕ) → 0 < i → i < name.count → i < length ks → take i ks ≡ take i (keys (path_of_name name))
      → x ≡ number (get_or name.bytes (4 * i) 0) (get_or name.bytes (4 * i + 1) 0) (get_or name.bytes (4 * i + 2) 0) (get_or name.bytes (4 * i + 3) 0)
      → take (i + 1) (set ks i x) ≡ take (i + 1) (keys (path_of_name name))
  keys-turn ks i x z h l e v =
      rw (add-one i, take-suc-set ks i x l, e, take-suc (keys (path_of_name name)) i 0 (omega (arith, length-keys (path_of_name name), length-path name)))
      (ap (λ (y : ℕ). take i (keys (path_of_name name)) ++ (y ∷ [])) (v ∙ sym (key-bytes i z h)))

  pub keys-first : 0 ∷ [] ≡ take 1 (keys (path_of_name name))
  keys-first =
      sym (take-suc (keys (path_of_name name)) 0 0 (omega (arith, length-keys (path_of_name name), some-kept limit (path_of_name name) (settled-kept limit name s)))
      ∙ ap (λ (y : ℕ). y ∷ []) (key-first limit (path_of_name name) (settled-kept limit name s)))

  pub keys-whole : (ks : List ℕ) (i : ℕ) → i ≡ name.count → take i ks ≡ take i (keys (path_of_name name)) → take name.count ks ≡ keys (path_of_name name)
  keys-whole ks i e h =
      ap (λ (n : ℕ). take n ks) (sym e) ∙ h ∙ take_all i (keys (path_of_name name)) (omega (arith, length-keys (path_of_name name), length-path name))

-- What a path argument comes to: an answer that is kept where it gives a path, as memory tells it.

kept-settled : (limit : ℕ) (cs : List Component) (name : AmlName) → Kept limit cs → name ≡ name_of limit cs → Settled limit name × (path_of_name name ≡ cs)
kept-settled limit cs name k e =
    let f = fine-path limit cs k.good k.room in
    let p : path_of_name name ≡ cs = ap path_of_name e ∙ f.1 in
    (record { path = ap (path_ok limit) e ∙ f.0; rooted = ap absolute p ∙ k.rooted; plain = ap is_normal_path p ∙ k.plain }, p)

abbrev pub Keeps : ℕ → Answer (List Component) → Type 0
Keeps limit a = (ns : List Component) → a ≡ gives ns → Kept limit ns

module _ (limit : ℕ) (a : Answer (List Component)) (kept : Keeps limit a) where
  -- the path in memory that a call was given
  pub found-given : (name : AmlName) → gives name ≡ named limit a → Settled limit name × (a ≡ gives (path_of_name name))
  found-given name h =
      let x = named-given limit a name h in
      let y = kept-settled limit x.0 name (kept x.0 x.1) x.2 in
      (y.0, x.1 ∙ ap (λ (l : List Component). gives l) (sym y.1))

-- a path argument, and one against a scope, without their keys
abbrev pub asked : ℕ → AmlName → Answer (List Component)
asked limit path = and_then (path_in_answer limit path) (settled limit)

abbrev pub joined : ℕ → AmlName → AmlName → Answer (List Component)
joined limit path scope = and_then (path_in_answer limit path) (λ cs. and_then (path_in_answer limit scope) (λ ss. resolved limit cs ss))

pub then-then : {A B C : Type 0} (a : Answer A) (f : A → Answer B) (g : B → Answer C) → and_then (and_then a f) g ≡ and_then a (λ x. and_then (f x) g)
then-then (gives x) f g = refl
then-then (refuses n p) f g = refl

pub asked-keys : (limit : ℕ) (path : AmlName) → and_then (asked limit path) (λ ns. gives (keys ns)) ≡ settled_keys limit path
unfolding settled_keys
asked-keys limit path = then-then (path_in_answer limit path) (settled limit) (λ ns. gives (keys ns))

pub joined-keys : (limit : ℕ) (path scope : AmlName) → and_then (joined limit path scope) (λ ns. gives (keys ns)) ≡ resolved_keys limit path scope
unfolding resolved_keys
joined-keys limit path scope =
    then-then (path_in_answer limit path) (λ cs. and_then (path_in_answer limit scope) (λ ss. resolved limit cs ss)) (λ ns. gives (keys ns)) ∙ go (path_in_answer limit path)
  where
    go : (x : Answer (List Component)) → and_then x (λ cs. and_then (and_then (path_in_answer limit scope) (λ ss. resolved limit cs ss)) (λ ns. gives (keys ns)))
        ≡ and_then x (λ cs. and_then (path_in_answer limit scope) (λ ss. and_then (resolved limit cs ss) (λ ns. gives (keys ns))))
    go (gives cs) = then-then (path_in_answer limit scope) (λ ss. resolved limit cs ss) (λ ns. gives (keys ns))
    go (refuses n p) = refl

pub read-path : (limit : ℕ) (name : AmlName) (cs : List Component) → path_in_answer limit name ≡ gives cs → fine true cs ≡ true
unfolding path_in_answer
read-path limit name cs e = go (path_ok limit name) refl e
  where
    go : (x : Bool) → path_ok limit name ≡ x → cond x (gives (path_of_name name)) (refuses 26 0) ≡ gives cs → fine true cs ≡ true
    go true h e = subst (λ (l : List Component). fine true l ≡ true) (gives_same e) (path-fine limit name h).0
    go false h e = refuses-not e

pub settled-keeps : (limit : ℕ) (cs : List Component) → fine true cs ≡ true → Keeps limit (settled limit cs)
unfolding settled
settled-keeps limit cs f ns e = go (absolute cs) refl e
  where
    go : (x : Bool) → absolute cs ≡ x → cond x (normal limit cs) (refuses 11 0) ≡ gives ns → Kept limit ns
    go true a e = normal-kept limit cs ns f a e
    go false a e = refuses-not e

pub asked-keeps : (limit : ℕ) (path : AmlName) → Keeps limit (asked limit path)
asked-keeps limit path ns e = go (path_in_answer limit path) refl e
  where
    go : (a : Answer (List Component)) → path_in_answer limit path ≡ a → and_then a (settled limit) ≡ gives ns → Kept limit ns
    go (gives cs) q e = settled-keeps limit cs (read-path limit path cs q) ns e
    go (refuses n k) q e = refuses-not e

pub joined_keeps : (limit : ℕ) (path scope : AmlName) → Keeps limit (joined limit path scope)
joined_keeps limit path scope ns e = go (path_in_answer limit path) (path_in_answer limit scope) refl refl e
  where
    go : (a b : Answer (List Component)) → path_in_answer limit path ≡ a → path_in_answer limit scope ≡ b → and_then a (λ cs. and_then b (λ ss. resolved limit cs ss)) ≡ gives ns → Kept limit ns
    go (gives cs) (gives ss) q r e = resolved-kept limit cs ss ns (read-path limit path cs q) (read-path limit scope ss r) e
    go (gives cs) (refuses n k) q r e = refuses-not e
    go (refuses n k) b q r e = refuses-not e

pub against-keeps : (limit : ℕ) (path scope : AmlName) → path_ok limit path ≡ true → path_ok limit scope ≡ true → Keeps limit (resolved limit (path_of_name path) (path_of_name scope))
against-keeps limit path scope hp hs ns e = resolved-kept limit (path_of_name path) (path_of_name scope) ns (path-fine limit path hp).0 (path-fine limit scope hs).0 e

-- the test of 26
pub tested : (limit : ℕ) (name : AmlName) → path_ok limit name ≡ true → gives (path_of_name name) ≡ path_in_answer limit name
unfolding path_in_answer
tested limit name h = rw h

-- an absolute path has its normal form, and any other is refused
pub settled-absolute : (limit : ℕ) (cs : List Component) → absolute cs ≡ true → normal limit cs ≡ settled limit cs
unfolding settled
settled-absolute limit cs h = rw h

pub settled-relative : (limit : ℕ) (cs : List Component) → absolute cs ≡ false → refuses 11 0 ≡ settled limit cs
unfolding settled
settled-relative limit cs h = rw h

-- memory that gave a path is what that path is in memory
pub path-memory : (limit : ℕ) (name : AmlName) (cs : List Component) → length name.bytes ≡ 4 * limit → gives cs ≡ path_in_answer limit name → name ≡ name_of limit cs
unfolding path_in_answer
path-memory limit name cs len e = go (path_ok limit name) refl e
  where
    go : (x : Bool) → path_ok limit name ≡ x → gives cs ≡ cond x (gives (path_of_name name)) (refuses 26 0) → name ≡ name_of limit cs
    go true h e = sym (name-whole limit name len h) ∙ ap (name_of limit) (sym (gives_same e))
    go false h e = refuses-not (sym e)
