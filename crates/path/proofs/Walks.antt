-- A walk over components: what stands stays good, so that what is given is a path again, fine and within the limit.
use mathlib.Core.Path.{◌≡◌, refl, sym, ◌∙◌, ap}
use mathlib.Core.Bool.{Bool, true, false, ◌||◌, cond}
use mathlib.Core.List.{List, [], ◌∷◌, ◌++◌, reverse-cons}
use Prim.Native.Nat.{ℕ, suc, ◌+◌, ◌-◌, ◌*◌, ◌≤◌, ◌<◌}
use native.Mathlib.Omega.{arith}
use lib.Dec.{leb}
use lib.ListN.{length, get_or, drop, length-reverse}
use lib.Seq.{drop-cons}
use borrow.Author.Tests.{le-leb, lt-leb, leb-true}
use Rattle.pkg_length.specs.Refusal.{Answer, gives, refuses, and_then}
use Rattle.pkg_length.proofs.Answers.{halves, never, wrong, refuses-not, gives_same, then-gives}
use Rattle.name_object.specs.Component.{Component, root, up, seg, is_seg_ok, fine, spell_one, spell}
use Rattle.name_object.specs.Memory.{name_of, zeros, component_of, path_of_name}
use Rattle.name_object.specs.declared.AmlName.{AmlName}
use Rattle.name_object.proofs.Memory.{read_at}
use Rattle.name_object.proofs.Paths.{name-whole, length-components, component-at, fine-later}
use Rattle.path.specs.Normal.{step, walk, upright, limited, normal, absolute, resolved}
use Rattle.path.specs.Inside.{Known, standing, fresh}

-- ## A walk in two parts

pub walk-append : (w : Answer (List Component)) (cs ds : List Component) → walk w (cs ++ ds) ≡ walk (walk w cs) ds
unfolding walk
walk-append w [] ds = refl
walk-append w (c ∷ cs) ds = walk-append (step w c) cs ds

pub walk_refused : (cs : List Component) (n p : ℕ) → walk (refuses n p) cs ≡ refuses n p
unfolding walk step
walk_refused [] n p = refl
walk_refused (c ∷ cs) n p = walk_refused cs n p

-- what the first part came to decides
pub walk-on : (cs ds : List Component) {v w : Answer (List Component)} → walk (gives []) cs ≡ v → walk v ds ≡ w → walk (gives []) (cs ++ ds) ≡ w
walk-on cs ds e f = walk-append (gives []) cs ds ∙ ap (λ (v : Answer (List Component)). walk v ds) e ∙ f

-- ## The components in their order

pub length-upright : (done : List Component) → length (upright done) ≡ length done
unfolding upright
length-upright done = length-reverse done

pub upright-cons : (x : Component) (done : List Component) → upright (x ∷ done) ≡ upright done ++ (x ∷ [])
unfolding upright
upright-cons x done = reverse-cons x done

-- ## Fine components

pub fine-any : (b : Bool) (cs : List Component) → fine false cs ≡ true → fine b cs ≡ true
fine-any true cs h = fine-later cs h
fine-any false cs h = h

pub fine-tail : (b : Bool) (x : Component) (cs : List Component) → fine b (x ∷ cs) ≡ true → fine false cs ≡ true
unfolding fine
fine-tail b root cs h = (halves b (fine false cs) h).1
fine-tail b up cs h = h
fine-tail b (seg p q r s) cs h = (halves (is_seg_ok p q r s) (fine false cs) h).1

-- components before others, which may be joined to them
pub fine-append : (b : Bool) (cs ds : List Component) → fine b cs ≡ true → fine false ds ≡ true → fine b (cs ++ ds) ≡ true
unfolding fine
fine-append b [] ds h k = fine-any b ds k
fine-append b (root ∷ cs) ds h k = let g = halves b (fine false cs) h in rw g.0 (fine-append false cs ds g.1 k)
fine-append b (up ∷ cs) ds h k = fine-append false cs ds h k
fine-append b (seg p q r s ∷ cs) ds h k = let g = halves (is_seg_ok p q r s) (fine false cs) h in rw g.0 (fine-append false cs ds g.1 k)

pub fine-front : (b : Bool) (cs ds : List Component) → fine b (cs ++ ds) ≡ true → fine b cs ≡ true
unfolding fine
fine-front b [] ds h = refl
fine-front b (root ∷ cs) ds h = let g = halves b (fine false (cs ++ ds)) h in rw g.0 (fine-front false cs ds g.1)
fine-front b (up ∷ cs) ds h = fine-front false cs ds h
fine-front b (seg p q r s ∷ cs) ds h = let g = halves (is_seg_ok p q r s) (fine false (cs ++ ds)) h in rw g.0 (fine-front false cs ds g.1)

-- a path that is not absolute may be joined, and one that may be is not
pub fine-relative : (cs : List Component) → absolute cs ≡ false → fine true cs ≡ true → fine false cs ≡ true
unfolding fine
fine-relative [] n h = refl
fine-relative (root ∷ cs) n h = wrong refl n
fine-relative (up ∷ cs) n h = h
fine-relative (seg a b c d ∷ cs) n h = h

later-relative : (cs : List Component) → fine false cs ≡ true → absolute cs ≡ false
unfolding fine
later-relative [] h = refl
later-relative (root ∷ cs) h = never h
later-relative (up ∷ cs) h = refl
later-relative (seg a b c d ∷ cs) h = refl

pub seg-of : (a b c d : ℕ) (f : Bool) → fine f (seg a b c d ∷ []) ≡ true → is_seg_ok a b c d ≡ true
unfolding fine
seg-of a b c d f h = (halves (is_seg_ok a b c d) true h).0

-- ## What stands stays good

-- a root that comes stands below all else
pub step-good : (r : Bool) (done ds : List Component) (x : Component) → standing r done ≡ true → fine (fresh done) (x ∷ []) ≡ true → step (gives done) x ≡ gives ds →
    standing (absolute (x ∷ []) || r) ds ≡ true
unfolding step standing fine
step-good r [] ds root ok h e = rw (sym (gives_same e))
step-good r (y ∷ done) ds root ok h e = never h
step-good r [] ds up ok h e = refuses-not e
step-good r (root ∷ done) ds up ok h e = refuses-not e
step-good r (up ∷ done) ds up ok h e = refuses-not e
step-good r (seg a b c d ∷ done) ds up ok h e = rw (sym (gives_same e)) (halves (is_seg_ok a b c d) (standing r done) ok).1
step-good r [] ds (seg a b c d) ok h e = rw (sym (gives_same e), seg-of a b c d true h) ok
step-good r (y ∷ done) ds (seg a b c d) ok h e = rw (sym (gives_same e), seg-of a b c d false h) ok

pub walk-good : (r : Bool) (cs done ds : List Component) → standing r done ≡ true → fine (fresh done) cs ≡ true → walk (gives done) cs ≡ gives ds →
    standing (absolute cs || r) ds ≡ true
unfolding walk
walk-good r [] done ds ok h e = rw (sym (gives_same e)) ok
walk-good r (x ∷ cs) done ds ok h e = go (λ q next. walk-good q cs next ds) (step (gives done) x) refl e
  where
    head : fine (fresh done) (x ∷ []) ≡ true
    head = fine-front (fresh done) (x ∷ []) cs h

    tail : fine false cs ≡ true
    tail = fine-tail (fresh done) x cs h

    first : (x : Component) → absolute (x ∷ []) ≡ absolute (x ∷ cs)
    first root = refl
    first up = refl
    first (seg a b c d) = refl

    go : ((q : Bool) (next : List Component) → standing q next ≡ true → fine (fresh next) cs ≡ true → walk (gives next) cs ≡ gives ds → standing (absolute cs || q) ds ≡ true) →
        (a : Answer (List Component)) → step (gives done) x ≡ a → walk a cs ≡ gives ds → standing (absolute (x ∷ cs) || r) ds ≡ true
    go k (gives next) s e =
        let g = k (absolute (x ∷ []) || r) next (step-good r done next x ok head s) (fine-any (fresh next) cs tail) e in
        rw (later-relative cs tail, first x) at g
    go k (refuses n p) s e = refuses-not (sym (walk_refused cs n p) ∙ e)

-- ## What is given

pub limited-given : (limit : ℕ) (cs ds : List Component) → limited limit cs ≡ gives ds → (cs ≡ ds) × (length cs ≤ limit)
unfolding limited
limited-given limit cs ds h = go (leb (length cs) limit) refl h
  where
    go : (t : Bool) → leb (length cs) limit ≡ t → cond t (gives cs) (refuses 9 0) ≡ gives ds → (cs ≡ ds) × (length cs ≤ limit)
    go true e h = (gives_same h, leb-true (length cs) limit e)
    go false e h = refuses-not h

pub limited-in : (limit : ℕ) (cs : List Component) → length cs ≤ limit → limited limit cs ≡ gives cs
unfolding limited
limited-in limit cs h = rw (le-leb (length cs) limit h)

pub limited-over : (limit : ℕ) (cs : List Component) → limit < length cs → limited limit cs ≡ refuses 9 0
unfolding limited
limited-over limit cs h = rw (lt-leb (length cs) limit h)

pub normal-given : (limit : ℕ) (cs ds : List Component) → normal limit cs ≡ gives ds →
    (done : List Component) × (walk (gives []) cs ≡ gives done) × (upright done ≡ ds) × (length ds ≤ limit)
unfolding normal
normal-given limit cs ds h =
    let t = then-gives (walk (gives []) cs) _ h in
    let e = limited-given limit (upright t.0) ds t.2 in
    (t.0, t.1, e.0, rw (sym e.0) e.1)

pub normal-by : (limit : ℕ) (cs : List Component) {w : Answer (List Component)} → walk (gives []) cs ≡ w → and_then w (λ done. limited limit (upright done)) ≡ normal limit cs
unfolding normal
normal-by limit cs e = rw (sym e)

-- resolving, by its tests
module _ (limit : ℕ) (cs scope : List Component) where
  pub res-relative : absolute scope ≡ false → refuses 11 0 ≡ resolved limit cs scope
  unfolding resolved
  res-relative a = rw a

  pub res-alone : absolute scope ≡ true → absolute cs ≡ true → normal limit cs ≡ resolved limit cs scope
  unfolding resolved
  res-alone a n = rw (a, n)

  pub res-joined : absolute scope ≡ true → absolute cs ≡ false → normal limit (scope ++ cs) ≡ resolved limit cs scope
  unfolding resolved
  res-joined a n = rw (a, n)

-- ## A path in memory

pub length-path : (name : AmlName) → length (path_of_name name) ≡ name.count
unfolding path_of_name
length-path name = length-components name.count name.bytes

-- the components from i on
pub path-next : (name : AmlName) (i : ℕ) → i < name.count →
    drop i (path_of_name name)
    ≡ component_of (get_or name.bytes (4 * i) 0) (get_or name.bytes (4 * i + 1) 0) (get_or name.bytes (4 * i + 2) 0) (get_or name.bytes (4 * i + 3) 0)
    ∷ drop (suc i) (path_of_name name)
unfolding path_of_name
path-next name i h =
    drop-cons (path_of_name name) i up (omega (arith, length-path name)) ∙ ap (λ (x : Component). x ∷ drop (suc i) (path_of_name name)) (component-at name.count name.bytes i h)

-- the bytes of the component at i
pub byte_at : (limit : ℕ) (name : AmlName) (i : ℕ) → Known limit name → i < name.count →
    spell_one (get_or (path_of_name name) i up) ≡ get_or name.bytes (4 * i) 0 ∷ get_or name.bytes (4 * i + 1) 0 ∷ get_or name.bytes (4 * i + 2) 0 ∷ get_or name.bytes (4 * i + 3) 0 ∷ []
unfolding name_of
byte_at limit name i k h =
    let e : spell (path_of_name name) ++ zeros (4 * (limit - length (path_of_name name))) ≡ name.bytes = ap (λ (n : AmlName). n.bytes) (name-whole limit name k.size k.ok) in
    rw e at (read_at (path_of_name name) (zeros (4 * (limit - length (path_of_name name)))) i (omega (arith, length-path name)))
