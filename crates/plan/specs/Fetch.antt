-- The rounds of a fetch, one after the other: what is left of them, done, is the whole plan. Assumes nothing.
use Rattle.std.specs.Prelude.{◌≡◌, ℕ, zero, suc, ◌+◌, ◌-◌, ◌<◌, ◌≤◌, Bool, true, false, List, [], ◌∷◌, ◌++◌, refl}
use Rattle.std.proofs.Common.{arith, sym, ◌∙◌}
use Rattle.voice.specs.declared.queue.Queue.{Queue}
use Rattle.plan.specs.Source.{Source}
use Rattle.plan.specs.declared.Act.{Act}
use Rattle.plan.specs.Rounds.{Round, round_plan, more, Planned, grown, rounds, has_table, plan_of}
use Rattle.plan.specs.Fits.{rounded, made_le}

-- what the rounds so far say, whose acts no loop keeps
abbrev pub sofar : Source → List Act → Queue → ℕ → ℕ → Planned
sofar s acts q done k = record { queue = q; acts = acts; rounds = k; done = done; table = has_table s }

-- after k rounds of a fetch from q, which did these acts and left the queue w
pub record Planning (s : Source) (count : ℕ) (q : Queue) (acts : List Act) (w : Queue) (done k : ℕ) (going : Bool) : Type 0 where
  pub below : k ≤ 64
  pub upto : done ≤ count
  pub index : w.index < 4
  pub left : rounds (64 - k) going s count (sofar s acts w done k) ≡ plan_of q s count

pub plan_begin : (s : Source) (count : ℕ) (q : Queue) {going : Bool} → q.index < 4 → going ≡ more true q 0 count
    → Planning s count q [] q 0 0 going
unfolding plan_of
plan_begin s count q h e = record {
  below = omega arith;
  upto = omega arith;
  index = h;
  left = λ i. rounds 64 (e i) s count (sofar s [] q 0 0);
}

rounds_more : (s : Source) (count n m : ℕ) (p : Planned) → n ≡ suc m
    → rounds n true s count p
    ≡ (let r = round_plan p.queue s (count - p.done) in rounds m (more r.going r.queue (p.done + r.got) count) s count (grown r p))
unfolding rounds
rounds_more s count n m p e = rw e

-- the round that comes next
module _ {s : Source} {count : ℕ} {q : Queue} {acts : List Act} {w : Queue} {done k : ℕ} {b : Bool} {r : Round} (p : Planning s count q acts w done k b)
    (e : r ≡ round_plan w s (count - done)) where
  pub round_upto : done + r.got ≤ count
  round_upto = rw e (let t = rounded w s (count - done) in omega (arith, t.room, t.made, made_le (round_plan w s (count - done)).act.decode, p.upto))

  pub round_index : r.queue.index < 4
  round_index = rw e ((rounded w s (count - done)).queue.index p.index)

  pub plan_more : {going : Bool} → k < 64 → b ≡ true → going ≡ more r.going r.queue (done + r.got) count
      → Planning s count q (acts ++ (r.act ∷ [])) r.queue (done + r.got) (k + 1) going
  plan_more h t g =
      let eg = g ∙ (λ i. more (e i).going (e i).queue (done + (e i).got) count) in
      record {
        below = omega arith;
        upto = round_upto;
        index = round_index;
        left = (λ i.
            rounds (64 - (k + 1)) (eg i) s count
            (record { queue = (e i).queue; acts = acts ++ ((e i).act ∷ []); rounds = k + 1; done = done + (e i).got; table = has_table s }))
            ∙ sym (rounds_more s count (64 - k) (64 - (k + 1)) (sofar s acts w done k) (omega arith))
            ∙ (λ i. rounds (64 - k) (sym t i) s count (sofar s acts w done k))
            ∙ p.left;
      }

rounds_none : (s : Source) (count n : ℕ) (b : Bool) (p : Planned) → n ≡ 0 → rounds n b s count p ≡ p
unfolding rounds
rounds_none s count n b p e = rw e

rounds_stop : (s : Source) (count n : ℕ) (p : Planned) → rounds n false s count p ≡ p
unfolding rounds
rounds_stop s count zero p = refl
rounds_stop s count (suc n) p = refl

-- no round is left, or none begins
module _ {s : Source} {count : ℕ} {q : Queue} {acts : List Act} {w : Queue} {done k : ℕ} {b : Bool} (p : Planning s count q acts w done k b) where
  pub plan_full : 64 ≤ k → sofar s acts w done k ≡ plan_of q s count
  plan_full h = sym (rounds_none s count (64 - k) b _ (omega arith)) ∙ p.left

  pub plan_stop : b ≡ false → sofar s acts w done k ≡ plan_of q s count
  plan_stop e = sym (rounds_stop s count (64 - k) _) ∙ (λ i. rounds (64 - k) (sym e i) s count (sofar s acts w done k)) ∙ p.left

-- the same for a loop that keeps no acts
pub record Walking (s : Source) (count : ℕ) (q w : Queue) (done k : ℕ) (going : Bool) : Type 0 where
  pub acts : List Act
  pub planning : Planning s count q acts w done k going
