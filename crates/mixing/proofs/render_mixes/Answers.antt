-- `mixing::render_mixes` meets its contract: without sub_mixes the volume is all, and the room that it lends is as long as
-- the mixes are many. Assumes nothing.
use mathlib.Core.Path.{sym}
use Prim.Native.Nat.{ℕ}
use lib.ListN.{replicate}
use lib.Seq.{length-take-le}
use Rattle.mixing.proofs.Alone.{mixed_down_alone}
use Rattle.mixing.proofs.render_mixes.Goals as goal

pub returns-then-n-eq1 : goal.returns-then-n-eq1
returns-then-n-eq1 c =
    mixed_down_alone _ _ _ _ _ _ _ _ _ c.if-n-eq1.true c.final_volume.ensures

pub slice_bounds-render_mixes_in-end : goal.slice_bounds-render_mixes_in-end
slice_bounds-render_mixes_in-end c =
    let mixes = c.args.mixer.now.desk.mixes in
    sym (length-take-le mixes.n (replicate {A = ℕ} 32 0) mixes.whole.few)

pub slice_bounds-render_mixes_in-end-2 : goal.slice_bounds-render_mixes_in-end-2
slice_bounds-render_mixes_in-end-2 c =
    let mixes = c.args.mixer.now.desk.mixes in
    sym (length-take-le mixes.n (replicate {A = ℕ} 32 0) mixes.whole.few)

pub render_mixes_in-requires-clause-room : goal.render_mixes_in-requires-clause-room
render_mixes_in-requires-clause-room c =
    let mixes = c.args.mixer.now.desk.mixes in
    let long = length-take-le mixes.n (replicate {A = ℕ} 32 0) mixes.whole.few in
    (long, long)
