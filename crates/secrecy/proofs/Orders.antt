-- The order of sub_mixes, asked for at any place of two sessions that are alike but for sample bytes: both give the same answer. Assumes nothing.
use Rattle.std.specs.Prelude.{◌≡◌, List, map, ℕ}
use Rattle.params.specs.declared.params.Params.{Params}
use Rattle.params.specs.Params.{params_of}
use Rattle.state.specs.State.{State}
use Rattle.whole.specs.Whole.{whole_is}
use Rattle.desk_order.specs.Listed.{listed_of}
use Rattle.desk_render.specs.DeskRender.{order_by}
use Rattle.calls.specs.Calls.{open_call, order_given, order_call}
use Rattle.secrecy.specs.Sessions.{Call, shape, state_at}
use Rattle.secrecy.specs.Demand.{begun}
use Rattle.secrecy.specs.Both.{Both}
use Rattle.secrecy.proofs.Lists.{None, both_at}
use Rattle.secrecy.specs.Opens.{begun_both}

order_both : {p : Params} {P : ℕ → Type 0} {a b : State} → Both p P a b → order_call a ≡ order_call b
unfolding order_call
order_both {a = a} {b = b} h =
    rw (whole_is a h.left, whole_is b h.right) (λ i. order_given (listed_of (order_by (params_of (h.alike.words i)) (h.alike.words i))))

-- at place r, before the call that stands there
pub orders_same : (p : Params) (a b : State) → (open_call p a).number ≡ 0 → (open_call p b).number ≡ 0 → (cs cs' : List Call) → map shape cs ≡ map shape cs'
    → (r : ℕ) → order_call (state_at (begun p a) cs r) ≡ order_call (state_at (begun p b) cs' r)
orders_same p a b oa ob cs cs' e r = order_both (both_at (begun_both p None a b oa ob) cs cs' e r)
