-- What a name answers: where its segments start, that they are the bytes that stand there, and what the count of its components decides.
use mathlib.Core.Path.{◌≡◌, sym, ◌∙◌, ap}
use mathlib.Core.Bool.{Bool, true, false, cond}
use mathlib.Core.List.{List, ◌∷◌, ◌++◌}
use Prim.Native.Nat.{ℕ, zero, suc, ◌+◌, ◌*◌, ◌≤◌, ◌<◌}
use native.Mathlib.Omega.{arith}
use lib.Dec.{eqb}
use lib.ListN.{length, drop}
use borrow.Author.Tests.{eq-eqb, ne_eqb, le-leb, lt-leb}
use Rattle.pkg_length.specs.Refusal.{Answer, gives, refuses, and_then}
use Rattle.pkg_length.proofs.Answers.{gives_same, then-gives, then-refuses}
use Rattle.name_object.specs.Component.{Component}
use Rattle.name_object.specs.Memory.{Named, Told, told, name_of}
use Rattle.name_object.specs.Name.{byte_at, segment, segments, run_at, name_path_answer, prefix_of, spelled, judged, name_string_answer}
use Rattle.name_object.specs.Inside.{cut, segments_end, name_at}
use Rattle.name_object.specs.declared.Run.{Run}
use Rattle.name_object.specs.declared.AmlName.{AmlName}
use Rattle.name_object.proofs.Reading.{byte-was, seg-was}
use Rattle.name_object.proofs.Building.{cut-none, cut-cons, whole, length_whole}

abbrev pub run : ℕ → ℕ → Run
run p n = record { from = p; count = n }

-- ## Where the segments start

module _ (xs : List ℕ) (p : ℕ) where
  pub path-none : (n q : ℕ) → refuses n q ≡ byte_at xs p → refuses n q ≡ run_at xs p
  unfolding run_at
  path-none n q h = rw (← h)

  module _ (b : ℕ) (h : gives b ≡ byte_at xs p) where
    pub path-null : b ≡ 0x00 → gives (run (p + 1) 0) ≡ run_at xs p
    unfolding run_at
    path-null e = rw (← h, e)

    pub path-dual : b ≡ 0x2E → gives (run (p + 1) 2) ≡ run_at xs p
    unfolding run_at
    path-dual e = rw (← h, e)

    pub path-short : b ≡ 0x2F → (n q : ℕ) → refuses n q ≡ byte_at xs (p + 1) → refuses n q ≡ run_at xs p
    unfolding run_at
    path-short e n q k = rw (← h, e, ← k)

    pub path-multi : b ≡ 0x2F → (n : ℕ) → gives n ≡ byte_at xs (p + 1) → gives (run (p + 2) n) ≡ run_at xs p
    unfolding run_at
    path-multi e n k = rw (← h, e, ← k)

    pub path-one : (b ≡ 0x00 → ⊥) → (b ≡ 0x2E → ⊥) → (b ≡ 0x2F → ⊥) → gives (run p 1) ≡ run_at xs p
    unfolding run_at
    path-one e₁ e₂ e₃ = rw (← h, ne_eqb _ _ e₁, ne_eqb _ _ e₂, ne_eqb _ _ e₃)

-- behind p, and inside
pub run-starts : (xs : List ℕ) (p : ℕ) (r : Run) → gives r ≡ run_at xs p → (p ≤ r.from) × (r.from ≤ length xs)
unfolding run_at
run-starts xs p r h =
    let t = then-gives (byte_at xs p) _ (sym h) in
    let w = byte-was xs p t.0 t.1 in
    go w.0 (eqb t.0 0x00) (eqb t.0 0x2E) (eqb t.0 0x2F) t.2
  where
    at : (f n : ℕ) → gives (run f n) ≡ gives r → p ≤ f → f ≤ length xs → (p ≤ r.from) × (r.from ≤ length xs)
    at f n e l m = let s : f ≡ r.from = ap (λ (v : Run). v.from) (gives_same e) in (omega arith, omega arith)

    go : p < length xs → (s t u : Bool) →
        cond s (gives (run (p + 1) 0)) (cond t (gives (run (p + 1) 2))
        (cond u (and_then (byte_at xs (p + 1)) (λ n. gives (run (p + 2) n))) (gives (run p 1)))) ≡ gives r → (p ≤ r.from) × (r.from ≤ length xs)
    go l true t u e = at (p + 1) 0 e (omega arith) (omega arith)
    go l false true u e = at (p + 1) 2 e (omega arith) (omega arith)
    go l false false true e =
        let v = then-gives (byte_at xs (p + 1)) _ e in
        at (p + 2) v.0 v.2 (omega arith) (omega (arith, (byte-was xs (p + 1) v.0 v.1).0))
    go l false false false e = at p 1 e (omega arith) (omega arith)

-- ## The segments themselves

-- segments that were given are the bytes that stand there
pub segments-were : (n p : ℕ) (xs : List ℕ) (cs : List Component) → p ≤ length xs → segments xs p n ≡ gives cs →
    (p + 4 * n ≤ length xs) × (cs ≡ cut n (drop p xs))
unfolding segments
segments-were zero p xs cs l h = (omega arith, sym (gives_same h) ∙ sym (cut-none (drop p xs)))
segments-were (suc n) p xs cs l h =
    let t = then-gives (segment xs p) _ h in
    let u = then-gives (segments xs (p + 4) n) _ t.2 in
    let w = seg-was xs p t.0 t.1 in
    let r = segments-were n (p + 4) xs u.0 w.inside u.1 in
    (omega (arith, r.0), sym (gives_same u.2) ∙ (λ i. w.is i ∷ r.1 i) ∙ sym (cut-cons n p xs))

pub segments-room : (n p e : ℕ) (xs : List ℕ) → p ≤ length xs → gives e ≡ segments_end xs p n → p + 4 * n ≤ length xs
unfolding segments_end
segments-room n p e xs l h = let t = then-gives (segments xs p n) _ (sym h) in (segments-were n p xs t.0 l t.1).0

-- ## The count decides

module _ (limit : ℕ) (v : Named ℕ) where
  pub judged-none : length v.path ≡ 0 → refuses 7 0 ≡ judged limit v
  unfolding judged
  judged-none h = rw (eq-eqb _ _ h)

  pub judged-over : limit < length v.path → refuses 9 0 ≡ judged limit v
  unfolding judged
  judged-over h = rw (ne_eqb (length v.path) 0 (λ e. omega arith), lt-leb _ _ h)

  pub judged-whole : (length v.path ≡ 0 → ⊥) → length v.path ≤ limit → gives v ≡ judged limit v
  unfolding judged
  judged-whole z h = rw (ne_eqb _ _ z, le-leb _ _ h)

-- the name whose n segments stand from p on; `pre` is the prefix's length
module _ (limit : ℕ) (xs : List ℕ) (pre p n : ℕ) (is : pre ≡ length (prefix_of xs)) where
  long : length (whole xs p n) ≡ pre + n
  long = rw is (length_whole xs p n)

  pub named_none : pre + n ≡ 0 → refuses 7 0 ≡ judged limit (name_at xs p n)
  named_none h = judged-none limit (name_at xs p n) (omega (arith, long))

  pub named-over : limit < pre + n → refuses 9 0 ≡ judged limit (name_at xs p n)
  named-over h = judged-over limit (name_at xs p n) (omega (arith, long))

  pub named-whole : (m : AmlName) → m ≡ name_of limit (whole xs p n) → (pre + n ≡ 0 → ⊥) → pre + n ≤ limit →
      ◌≡◌ {A = Answer (Told ℕ)} (gives (record { memory = m; value = p + 4 * n })) (told limit (judged limit (name_at xs p n)))
  named-whole m b z h =
      (λ i. gives (record { memory = b i; value = p + 4 * n })) ∙ ap (told limit) (judged-whole limit (name_at xs p n) (λ e. z (omega (arith, long))) (omega (arith, long)))

-- ## The whole name, one law for each way that reading ends

module _ (limit : ℕ) (xs : List ℕ) (pre : ℕ) (is : pre ≡ length (prefix_of xs)) where
  pub answer-none : (n q : ℕ) → refuses n q ≡ run_at xs pre → refuses n q ≡ name_string_answer limit xs
  unfolding name_string_answer spelled name_path_answer
  answer-none n q h = rw (← is, ← h)

  module _ (r : Run) (starts : gives r ≡ run_at xs pre) where
    pub answer-refused : (n q : ℕ) → refuses n q ≡ segments_end xs r.from r.count → refuses n q ≡ name_string_answer limit xs
    unfolding name_string_answer spelled name_path_answer segments_end
    answer-refused n q h = let e = then-refuses (segments xs r.from r.count) _ (sym h) in rw (← is, ← starts, e)

    read_as : (cs : List Component) → segments xs r.from r.count ≡ gives cs →
        judged limit (record { path = prefix_of xs ++ cs; value = r.from + 4 * r.count }) ≡ name_string_answer limit xs
    unfolding name_string_answer spelled name_path_answer
    read_as cs e = rw (← is, ← starts, e)

    pub answer-read : (e : ℕ) → gives e ≡ segments_end xs r.from r.count → judged limit (name_at xs r.from r.count) ≡ name_string_answer limit xs
    unfolding segments_end
    answer-read e read =
        let t = then-gives (segments xs r.from r.count) _ (sym read) in
        let w = segments-were r.count r.from xs t.0 (run-starts xs pre r starts).1 t.1 in
        ap (λ (cs : List Component). judged limit (record { path = prefix_of xs ++ cs; value = r.from + 4 * r.count })) (sym w.1) ∙ read_as t.0 t.1
