-- Nothing that is evaluated or run changes the frame's width.
use Rattle.std.proofs.Common.{◌≡◌, ℕ, zero, suc, Bool, true, false, cond, eqb, sym, refl, ap, ◌∙◌}
use Rattle.pkg_length.specs.Refusal.{Answer, gives, refuses}
use Rattle.statement.specs.declared.frame.Frame.{Frame}
use Rattle.statement.specs.declared.frame.Width.{Width}
use Rattle.grammar.specs.Reader.{Read, took}
use Rattle.grammar.specs.Tree.{cell, Target, nowhere, to, Term, const, read, step, one, two, Stmt, plain, return, if_else, while, expr, Stmts, nil, cons}
use Rattle.statement.specs.Meaning.{frames, Ran, ran, then_do, spend, Ended, finished, returned, break_out, continue_out, go_on, Go, again, over, after_turn, one_turn, turns, fetch, put, eval, do_stmt, do_stmts}
use Rattle.statement.specs.Lent.{ran_of}

unfoldable pub width_in : {A : Type 0} → Ran Frame A → Width
width_in (ran f u a) = f.width

then-width : {A B : Type 0} (r : Ran Frame A) (k : A → Frame → ℕ → Ran Frame B) (w : Width) → width_in r ≡ w → ((a : A) (f : Frame) (v : ℕ) → width_in (k a f v) ≡ f.width) →
    width_in (then_do r k) ≡ w
unfolding width_in
then-width (ran f v (gives a)) k w h g = g a f v ∙ h
then-width (ran f v (refuses n p)) k w h g = h

cond-width : {A : Type 0} (c : Bool) (x y : Ran Frame A) (w : Width) → width_in x ≡ w → width_in y ≡ w → width_in (cond c x y) ≡ w
cond-width true x y w h k = h
cond-width false x y w h k = k

spend-width : {A : Type 0} (f : Frame) (u : ℕ) (k : ℕ → Ran Frame A) → ((v : ℕ) → width_in (k v) ≡ f.width) → width_in (spend f u k) ≡ f.width
unfolding width_in
spend-width f zero k h = refl
spend-width f (suc u) k h = h u

on-width : (e : Ended) (k : Frame → ℕ → Ran Frame Ended) → ((f : Frame) (v : ℕ) → width_in (k f v) ≡ f.width) → (f : Frame) (u : ℕ) → width_in (go_on e k f u) ≡ f.width
unfolding width_in
on-width finished k h f u = h f u
on-width (returned n) k h f u = refl
on-width break_out k h f u = refl
on-width continue_out k h f u = refl

after-width : (g : Go) (k : Frame → ℕ → Ran Frame Ended) → ((f : Frame) (v : ℕ) → width_in (k f v) ≡ f.width) → (f : Frame) (u : ℕ) → width_in (after_turn g k f u) ≡ f.width
unfolding width_in
after-width again k h f u = h f u
after-width (over e) k h f u = refl

module _ (p : Frame → ℕ → Ran Frame ℕ) (body : Frame → ℕ → Ran Frame Ended) (hp : (f : Frame) (v : ℕ) → width_in (p f v) ≡ f.width) (hb : (f : Frame) (v : ℕ) → width_in (body f v) ≡ f.width) where
  pub turn-width : (f : Frame) (u : ℕ) → width_in (one_turn p body f u) ≡ f.width
  unfolding width_in
  turn-width f u =
      spend-width f u _ λ v.
      then-width (p f v) _ f.width (hp f v) λ n t w.
      cond-width (eqb n 0) _ _ t.width refl (then-width (body t w) _ t.width (hb t w) λ e x y. refl)

  turns-width : (k : ℕ) (f : Frame) (u : ℕ) → width_in (turns p body k f u) ≡ f.width
  unfolding turns width_in
  turns-width zero f u = refl
  turns-width (suc k) f u = then-width (one_turn p body f u) _ f.width (turn-width f u) λ g t v. after-width g (turns p body k) (turns-width k) t v

module _ (w : ℕ) where
  put-width : (x : Target) (n : ℕ) (f : Frame) (u : ℕ) → width_in (put frames x n f u) ≡ f.width
  unfolding width_in
  put-width nowhere n f u = refl
  put-width (to (cell c)) n f u = refl

  pub term-width : (t : Term) (f : Frame) (u : ℕ) → width_in (eval frames w t f u) ≡ f.width
  unfolding eval width_in
  term-width (const n) f u = refl
  term-width (read x) f u = refl
  term-width (step o x) f u = then-width (fetch frames x f u) _ f.width refl λ n t v. put-width (to x) _ t v
  term-width (one o a x) f u = then-width (eval frames w a f u) _ f.width (term-width a f u) λ n t v. put-width x _ t v
  term-width (two o a b x) f u =
      then-width (eval frames w a f u) _ f.width (term-width a f u) λ n t v. then-width (eval frames w b t v) _ t.width (term-width b t v) λ k y z. put-width x _ y z

  mutual
    unfolding do_stmt width_in

    pub stmt-width : (x : Stmt) (f : Frame) (u : ℕ) → width_in (do_stmt frames w x f u) ≡ f.width
    stmt-width (plain o) f u = refl
    stmt-width (return a) f u = then-width (eval frames w a f u) _ f.width (term-width a f u) λ n t v. refl
    stmt-width (if_else a xs ys) f u =
        then-width (eval frames w a f u) _ f.width (term-width a f u) λ n t v.
        cond-width (eqb n 0) (do_stmts frames w ys t v) (do_stmts frames w xs t v) t.width (list-width ys t v) (list-width xs t v)
    stmt-width (while a xs) f u = turns-width (eval frames w a) (λ t v. do_stmts frames w xs t v) (term-width a) (λ t v. list-width xs t v) (suc u) f u
    stmt-width (expr a) f u = then-width (eval frames w a f u) _ f.width (term-width a f u) λ n t v. refl

    list-width : (xs : Stmts) (f : Frame) (u : ℕ) → width_in (do_stmts frames w xs f u) ≡ f.width
    list-width nil f u = refl
    list-width (cons x xs) f u =
        then-width (spend f u (λ v. do_stmt frames w x f v)) _ f.width (spend-width f u _ (λ v. stmt-width x f v)) λ e t v.
        on-width e (λ y z. do_stmts frames w xs y z) (λ y z. list-width xs y z) t v

  pub begun-width : (x : Stmt) (f : Frame) (u : ℕ) → width_in (spend f u (λ v. do_stmt frames w x f v)) ≡ f.width
  begun-width x f u = spend-width f u _ (λ v. stmt-width x f v)

  pub ran-width : (R : Answer (Read Stmts)) (f : Frame) (u : ℕ) → width_in (ran_of w R f u) ≡ f.width
  unfolding width_in
  ran-width (gives (took xs k)) f u = list-width xs f u
  ran-width (refuses n p) f u = refl

-- as the laws of a run ask for it: the frame that is left has the width of the one that came
pub same-width : {A : Type 0} (x : Ran Frame A) (f g : Frame) (u : ℕ) (a : Answer A) → width_in x ≡ f.width → x ≡ ran g u a → g.width ≡ f.width
unfolding width_in
same-width x f g u a h e = sym (ap width_in e) ∙ h
