-- What holds of the meaning alone, over any memory: nothing makes units, a term takes none, fuel over the units changes nothing, and a While unrolls.
use Rattle.std.proofs.Common.{◌≡◌, ℕ, zero, suc, ◌<◌, ◌≤◌, Bool, true, false, cond, eqb, refl, ap, ◌∙◌, arith}
use Rattle.pkg_length.specs.Refusal.{Answer, gives, refuses}
use Rattle.grammar.specs.Tree.{Target, nowhere, to, Term, const, read, step, one, two, Stmt, plain, return, if_else, while, expr, Stmts, nil, cons}
use Rattle.statement.specs.Meaning.{Memory, Ran, ran, then_do, spend, Ended, finished, returned, break_out, continue_out, go_on, Go, again, over, go_of, after_turn, one_turn, turns, saved, fetch, put, eval, do_stmt, do_stmts}

unfoldable pub left_of : {S A : Type 0} → Ran S A → ℕ
left_of (ran s u a) = u

-- ## Nothing makes units

module _ {S A : Type 0} where
  then-left : {B : Type 0} (r : Ran S A) (k : A → S → ℕ → Ran S B) (u : ℕ) → left_of r ≤ u → ((a : A) (s : S) (v : ℕ) → left_of (k a s v) ≤ v) → left_of (then_do r k) ≤ u
  unfolding left_of
  then-left (ran s v (gives a)) k u h g = omega (arith, h, g a s v)
  then-left (ran s v (refuses n p)) k u h g = h

  cond-left : (c : Bool) (x y : Ran S A) (u : ℕ) → left_of x ≤ u → left_of y ≤ u → left_of (cond c x y) ≤ u
  cond-left true x y u h k = h
  cond-left false x y u h k = k

  spend-left : (s : S) (u : ℕ) (k : ℕ → Ran S A) → ((v : ℕ) → left_of (k v) ≤ v) → left_of (spend s u k) ≤ u
  unfolding left_of
  spend-left s zero k h = omega arith
  spend-left s (suc u) k h = omega (arith, h u)

module _ {S : Type 0} where
  on-left : (e : Ended) (k : S → ℕ → Ran S Ended) → ((s : S) (v : ℕ) → left_of (k s v) ≤ v) → (s : S) (u : ℕ) → left_of (go_on e k s u) ≤ u
  unfolding left_of
  on-left finished k h s u = h s u
  on-left (returned n) k h s u = omega arith
  on-left break_out k h s u = omega arith
  on-left continue_out k h s u = omega arith

  after-left : (g : Go) (k : S → ℕ → Ran S Ended) → ((s : S) (v : ℕ) → left_of (k s v) ≤ v) → (s : S) (u : ℕ) → left_of (after_turn g k s u) ≤ u
  unfolding left_of
  after-left again k h s u = h s u
  after-left (over e) k h s u = omega arith

-- a While's turns
module _ {S : Type 0} (p : S → ℕ → Ran S ℕ) (body : S → ℕ → Ran S Ended) (hp : (s : S) (v : ℕ) → left_of (p s v) ≤ v) (hb : (s : S) (v : ℕ) → left_of (body s v) ≤ v) where
  tested-left : (s : S) (u : ℕ) →
      left_of (then_do (p s u) (λ n t w. cond (eqb n 0) (ran t w (gives (over finished))) (then_do (body t w) (λ e x y. ran x y (gives (go_of e)))))) ≤ u
  unfolding left_of
  tested-left s u =
      then-left (p s u) _ u (hp s u) λ n t w.
      cond-left (eqb n 0) _ _ w (omega arith) (then-left (body t w) _ w (hb t w) λ e x y. omega arith)

  turn-left : (s : S) (u : ℕ) → left_of (one_turn p body s u) ≤ u
  turn-left s u = spend-left s u _ (tested-left s)

  -- a turn that asks for another has used a unit
  pub turn-less : (s t : S) (u v : ℕ) (g : Go) → one_turn p body s u ≡ ran t v (gives g) → v < u
  unfolding left_of
  turn-less s t zero v g e = absurd (let z : ◌≡◌ {A = ℕ} 0 1 = cc in omega arith)
  turn-less s t (suc u) v g e = omega (arith, tested-left s u, ap left_of e)

  turns-left : (k : ℕ) (s : S) (u : ℕ) → left_of (turns p body k s u) ≤ u
  unfolding turns left_of
  turns-left zero s u = omega arith
  turns-left (suc k) s u = then-left (one_turn p body s u) _ u (turn-left s u) λ g t v. after-left g (turns p body k) (turns-left k) t v

  -- what follows a turn is asked for with fewer units
  turn_by : (s : S) (u : ℕ) (x y : S → ℕ → Ran S Ended) → ((t : S) (v : ℕ) → v < u → x t v ≡ y t v) →
      then_do (one_turn p body s u) (λ g t v. after_turn g x t v) ≡ then_do (one_turn p body s u) (λ g t v. after_turn g y t v)
  turn_by s u x y h = go (one_turn p body s u) refl
    where
      go : (r : Ran S Go) → one_turn p body s u ≡ r → then_do r (λ g t v. after_turn g x t v) ≡ then_do r (λ g t v. after_turn g y t v)
      go (ran t v (gives again)) e = h t v (turn-less s t u v again e)
      go (ran t v (gives (over d))) e = refl
      go (ran t v (refuses n q)) e = refl

  -- fuel over the units changes nothing
  pub turns-enough : (k j : ℕ) (s : S) (u : ℕ) → u < k → u < j → turns p body k s u ≡ turns p body j s u
  unfolding turns
  turns-enough zero j s u h i = absurd (omega arith)
  turns-enough (suc k) zero s u h i = absurd (omega arith)
  turns-enough (suc k) (suc j) s u h i = turn_by s u (turns p body k) (turns p body j) (λ t v l. turns-enough k j t v (omega arith) (omega arith))

  -- the turns with fuel enough, as one turn and the turns after it
  pub turns_next : (k : ℕ) (s : S) (u : ℕ) → u < k → turns p body k s u ≡ then_do (one_turn p body s u) (λ g t v. after_turn g (λ y z. turns p body (suc z) y z) t v)
  unfolding turns
  turns_next zero s u h = absurd (omega arith)
  turns_next (suc k) s u h = turn_by s u (turns p body k) (λ y z. turns p body (suc z) y z) (λ t v l. turns-enough k (suc v) t v (omega arith) (omega arith))

saved-left : {S : Type 0} (n : ℕ) (s : S) (u : ℕ) (a : Answer S) → left_of (saved n s u a) ≤ u
unfolding left_of
saved-left n s u (gives t) = omega arith
saved-left n s u (refuses k p) = omega arith

module _ (m : Memory) (w : ℕ) where
  put-left : (x : Target) (n : ℕ) (s : m.State) (u : ℕ) → left_of (put m x n s u) ≤ u
  unfolding left_of
  put-left nowhere n s u = omega arith
  put-left (to x) n s u = saved-left n s u (m.save s x n)

  pub term-left : (t : Term) (s : m.State) (u : ℕ) → left_of (eval m w t s u) ≤ u
  unfolding eval left_of
  term-left (const n) s u = omega arith
  term-left (read x) s u = omega arith
  term-left (step o x) s u = then-left (fetch m x s u) _ u (omega arith) λ n t v. put-left (to x) _ t v
  term-left (one o a x) s u = then-left (eval m w a s u) _ u (term-left a s u) λ n t v. put-left x _ t v
  term-left (two o a b x) s u =
      then-left (eval m w a s u) _ u (term-left a s u) λ n t v. then-left (eval m w b t v) _ v (term-left b t v) λ k y z. put-left x _ y z

  mutual
    unfolding do_stmt left_of

    stmt-left : (x : Stmt) (s : m.State) (u : ℕ) → left_of (do_stmt m w x s u) ≤ u
    stmt-left (plain o) s u = omega arith
    stmt-left (return a) s u = then-left (eval m w a s u) _ u (term-left a s u) λ n t v. omega arith
    stmt-left (if_else a xs ys) s u =
        then-left (eval m w a s u) _ u (term-left a s u) λ n t v. cond-left (eqb n 0) (do_stmts m w ys t v) (do_stmts m w xs t v) v (list_left ys t v) (list_left xs t v)
    stmt-left (while a xs) s u = turns-left (eval m w a) (λ t v. do_stmts m w xs t v) (term-left a) (λ t v. list_left xs t v) (suc u) s u
    stmt-left (expr a) s u = then-left (eval m w a s u) _ u (term-left a s u) λ n t v. omega arith

    pub list_left : (xs : Stmts) (s : m.State) (u : ℕ) → left_of (do_stmts m w xs s u) ≤ u
    list_left nil s u = omega arith
    list_left (cons x xs) s u =
        then-left (spend s u (λ v. do_stmt m w x s v)) _ u (spend-left s u _ (λ v. stmt-left x s v)) λ e t v.
        on-left e (λ y z. do_stmts m w xs y z) (λ y z. list_left xs y z) t v

  -- a While is one turn, and then itself where that asks for another
  pub while-unrolls : (a : Term) (xs : Stmts) (s : m.State) (u : ℕ) →
      do_stmt m w (while a xs) s u ≡ then_do (one_turn (eval m w a) (λ t v. do_stmts m w xs t v) s u) (λ g t v. after_turn g (λ y z. do_stmt m w (while a xs) y z) t v)
  unfolding do_stmt
  while-unrolls a xs s u = turns_next (eval m w a) (λ t v. do_stmts m w xs t v) (term-left a) (λ t v. list_left xs t v) (suc u) s u (omega arith)

-- ## A term takes no unit

unfoldable pub with_units : {S A : Type 0} → ℕ → Ran S A → Ran S A
with_units u (ran s v a) = ran s u a

module _ (m : Memory) (w : ℕ) where
  put_keeps : (x : Target) (n : ℕ) (s : m.State) (u v : ℕ) → put m x n s u ≡ with_units u (put m x n s v)
  unfolding with_units
  put_keeps nowhere n s u v = refl
  put_keeps (to x) n s u v = go (m.save s x n)
    where
      go : (a : Answer m.State) → saved n s u a ≡ with_units u (saved n s v a)
      go (gives t) = refl
      go (refuses k p) = refl

  then_keeps : (u v : ℕ) (r : Ran m.State ℕ) (k : ℕ → m.State → ℕ → Ran m.State ℕ) → ((n : ℕ) (s : m.State) (v : ℕ) → k n s u ≡ with_units u (k n s v)) →
      then_do (with_units u r) k ≡ with_units u (then_do r k)
  unfolding with_units
  then_keeps u v (ran s y (gives n)) k h = h n s y
  then_keeps u v (ran s y (refuses n p)) k h = refl

  pub term-keeps : (t : Term) (s : m.State) (u v : ℕ) → eval m w t s u ≡ with_units u (eval m w t s v)
  unfolding eval with_units
  term-keeps (const n) s u v = refl
  term-keeps (read x) s u v = refl
  term-keeps (step o x) s u v = then_keeps u v (fetch m x s v) _ λ n t y. put_keeps (to x) (_) t u y
  term-keeps (one o a x) s u v = rw (term-keeps a s u v) (then_keeps u v (eval m w a s v) _ λ n t y. put_keeps x (_) t u y)
  term-keeps (two o a b x) s u v =
      rw (term-keeps a s u v) (then_keeps u v (eval m w a s v) _ λ n t y.
      (rw (term-keeps b t u y) (then_keeps u y (eval m w b t y) _ λ k i j. put_keeps x (_) i u j)))

  -- what a term gives with no unit, it gives with any
  pub with-units : (t : Term) (s g : m.State) (a : Answer ℕ) → eval m w t s 0 ≡ ran g 0 a → (u : ℕ) → eval m w t s u ≡ ran g u a
  unfolding with_units
  with-units t s g a e u = term-keeps t s u 0 ∙ ap (with_units u) e
