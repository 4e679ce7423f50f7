-- The check accepts exactly what the grammar derives, a block has one reading, and its refusal is the definition's.
use mathlib.Core.Path.{◌≡◌, refl, sym, ap, subst, ◌∙◌}
use mathlib.Core.Bool.{Bool, true, false, cond}
use mathlib.Core.List.{List}
use Prim.Native.Nat.{ℕ, ◌≤◌, ◌<◌}
use lib.Dec.{leb}
use lib.ListN.{length}
use borrow.Author.Tests.{le-leb, lt-leb, leb-true}
use Rattle.std.specs.Prelude.{Result, Ok, Err}
use Rattle.pkg_length.specs.declared.AmlError.{AmlError}
use Rattle.pkg_length.specs.Refusal.{Answer, gives, refuses, said, block_limit}
use Rattle.pkg_length.proofs.Papers.{case_of, case-is}
use Rattle.grammar.specs.Tree.{Stmts}
use Rattle.grammar.specs.Grammar.{depth_limit, DStmts}
use Rattle.grammar.specs.Reader.{Read, took, read_list, tree_of, read_block}
use Rattle.grammar.specs.Said.{read_through}
use Rattle.grammar.specs.Promise.{Derives, Checked}
use Rattle.pkg_length.proofs.Answers.{refuses-not}
use Rattle.grammar.proofs.Statements.{lists-sound, lists-complete}

-- the reading of a block is what the grammar derives, both ways
pub reads-what-derives : (s : List ℕ) (t : Stmts) → Derives s t → read_block s ≡ gives t
unfolding read_block
reads-what-derives s t d = rw (le-leb (length s) block_limit d.short, lists-complete depth_limit t s d.derived 0)

pub derives-what-reads : (s : List ℕ) (t : Stmts) → read_block s ≡ gives t → Derives s t
unfolding read_block
derives-what-reads s t e = go (leb (length s) block_limit) refl e
  where
    tree : (R : Answer (Read Stmts)) → read_list depth_limit 0 s ≡ R → tree_of R ≡ gives t → DStmts depth_limit t s
    tree (gives (took xs k)) f h = let q : xs ≡ t = cc in subst (λ (x : Stmts). DStmts depth_limit x s) q (lists-sound depth_limit 0 s xs k f)
    tree (refuses n p) f h = refuses-not h

    go : (b : Bool) → leb (length s) block_limit ≡ b → cond b (tree_of (read_list depth_limit 0 s)) (refuses 5 0) ≡ gives t → Derives s t
    go true q h = record { short = leb-true (length s) block_limit q; derived = tree (read_list depth_limit 0 s) refl h }
    go false q h = refuses-not h

-- a block has at most one reading
pub one-reading : (s : List ℕ) (t u : Stmts) → Derives s t → Derives s u → t ≡ u
one-reading s t u d e =
    let p : read_block s ≡ gives t = reads-what-derives s t d in
    let q : read_block s ≡ gives u = reads-what-derives s u e in
    cc

-- nothing derives a block exactly where the definition refuses it
pub refused-is-underived : (s : List ℕ) (n p : ℕ) → read_block s ≡ refuses n p → (t : Stmts) → Derives s t → ⊥
refused-is-underived s n p e t d =
    let q : read_block s ≡ gives t = reads-what-derives s t d in
    cc

pub underived-is-refused : (s : List ℕ) → ((t : Stmts) → Derives s t → ⊥) → (n : ℕ) × (p : ℕ) × (read_block s ≡ refuses n p)
underived-is-refused s none = go (read_block s) refl
  where
    go : (R : Answer Stmts) → read_block s ≡ R → (n : ℕ) × (p : ℕ) × (read_block s ≡ refuses n p)
    go (gives t) e = absurd (none t (derives-what-reads s t e))
    go (refuses n p) e = (n, p, e)

-- ## The check

-- what a check of a block answers
abbrev pub Verdict : Type 0
Verdict = Result (Unit {0}) AmlError

-- what is said of a block, by its reading: nothing against it, or the refusal
abbrev pub judged : Answer Stmts → Answer (Unit {0})
judged (gives t) = gives tt
judged (refuses n p) = refuses n p

-- the answer that says so
unfoldable answer_of : Answer (Unit {0}) → Verdict
answer_of (gives u) = Ok u
answer_of (refuses n p) = Err (case_of n p)

said-accepted : (r : Verdict) → said r ≡ gives tt → r ≡ Ok tt
said-accepted (Ok u) e = refl
said-accepted (Err x) e = refuses-not e

-- from what the code's answer says
pub checked-from : (s : List ℕ) (r : Verdict) → said r ≡ judged (read_block s) → Checked s r
checked-from s r e =
    record {
      derived = λ t d. said-accepted r (e ∙ ap judged (reads-what-derives s t d));
      reading = λ q. go (read_block s) refl (sym e ∙ ap (λ (v : Verdict). said v) q);
      refusal = λ n p f. e ∙ ap judged f;
    }
  where
    go : (R : Answer Stmts) → read_block s ≡ R → judged R ≡ gives tt → (t : Stmts) × Derives s t
    go (gives t) f h = (t, derives-what-reads s t f)
    go (refuses n p) f h = refuses-not h

-- the check accepts exactly the blocks that the grammar derives
pub check-accepts-exactly : (s : List ℕ) (r : Verdict) → Checked s r → (r ≡ Ok tt → (t : Stmts) × Derives s t) × ((t : Stmts) → Derives s t → r ≡ Ok tt)
check-accepts-exactly s r c = (c.reading, c.derived)

refusing : AmlError → Verdict
refusing e = Err e

-- and gives one answer for each block
verdict-is : (r : Verdict) → answer_of (said r) ≡ r
unfolding answer_of refusing
verdict-is (Ok u) = refl
verdict-is (Err e) = ap refusing (case-is e)

pub one-check : (s : List ℕ) (r q : Verdict) → Checked s r → Checked s q → r ≡ q
one-check s r q c d = go (read_block s) refl
  where
    go : (R : Answer Stmts) → read_block s ≡ R → r ≡ q
    go (gives t) e = let x = derives-what-reads s t e in c.derived t x ∙ sym (d.derived t x)
    go (refuses n p) e = sym (verdict-is r) ∙ ap answer_of (c.refusal n p e ∙ sym (d.refusal n p e)) ∙ verdict-is q

-- the code's answers, as what they say
pub too_long : (s : List ℕ) → block_limit < length s → refuses 5 0 ≡ judged (read_block s)
unfolding read_block
too_long s h = rw (lt-leb (length s) block_limit h)

through-is : (R : Answer (Read Stmts)) → read_through R ≡ judged (tree_of R)
through-is (gives (took xs k)) = refl
through-is (refuses n p) = refl

pub whole-read : (s : List ℕ) → length s ≤ block_limit → (a : Answer (Unit {0})) → a ≡ read_through (read_list depth_limit 0 s) → a ≡ judged (read_block s)
unfolding read_block
whole-read s h a e = e ∙ rw (le-leb (length s) block_limit h) (through-is (read_list depth_limit 0 s))
