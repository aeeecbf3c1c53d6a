-- `session::calls_whole` meets its contract: `Walking` holds before each call. Assumes nothing.
use Rattle.std.proofs.Common.{◌≡◌, ◌<◌, ◌+◌, ◌-◌, ℕ, List, Option, refl, ap, sym, subst, ◌∙◌, arith, drop}
use Rattle.fields.specs.Fields.{rest_of}
use Rattle.session.specs.declared.input.Call.{Call}
use Rattle.session.specs.Input.{call_of, size_of}
use Rattle.session.specs.Calls.{Walking, size_some, walk_begin, walk_inside, walk_more, walk_cut, walk_end}
use Rattle.session.proofs.question.calls_whole.Goals as goal
use Rattle.session.proofs.question.calls_whole.Goals.{After-size-at}

-- the call at the place: r is what is left there
call_is : (d : List ℕ) (at : ℕ) {r : List ℕ} {o : Option Call} → r ≡ rest_of d at → o ≡ call_of r → o ≡ call_of (drop at d)
unfolding rest_of
call_is d at e o = o ∙ ap call_of e

-- and its size
size_is : (c : After-size-at) → c.size-at.result ≡ size_of (call_of (drop c.loop.at c.args.d.now))
size_is c =
    c.size-at.ensures ∙ ap size_of (sym c.in-Some.is ∙ call_is c.args.d.now c.loop.at c.rest.ensures c.first_call.ensures)

pub loop-init : goal.loop-init
loop-init c =
    let e : c.args.n ≡ c.args.n - 0 = omega arith in
    subst (λ (m : ℕ). Walking c.args.d.now c.args.n 0 m) e (walk_begin c.args.d.now c.args.n)

pub returns-in_default : goal.returns-in_default
returns-in_default c =
    walk_cut c.loop.invariant (omega arith) refl (ap size_of (sym (call_is c.args.d.now c.loop.at c.rest.ensures c.first_call.ensures) ∙ c.in_default.is))

pub overflow_add-at : goal.overflow_add-at
overflow_add-at c =
    omega (arith, walk_inside c.loop.invariant (omega arith) (size_is (goal.at.overflow_add-at c).After-size-at))

pub loop-preserved : goal.loop-preserved
loop-preserved c =
    let e : c.args.n - c.loop.counter - 1 ≡ c.args.n - (c.loop.counter + 1) = omega arith in
    let some : 0 < c.size-at.result = omega (arith, c.size-at.ensures, size_some c.in-Some.call) in
    subst (λ (m : ℕ). Walking c.args.d.now c.args.n (c.loop.at + c.size-at.result) m) e
    (walk_more c.loop.invariant (omega arith) (size_is (goal.at.loop-preserved c).After-size-at) (omega arith))

pub returns : goal.returns
returns c = walk_end c.loop.invariant (omega arith)
