-- What a voice's sends leave in the gains follows from the gains before: neither from what is sent nor from the mix buffers. Assumes nothing.
use Rattle.std.specs.Prelude.{◌≡◌, refl, Bool, true, false, cond, ◌&&◌, List, ℕ, zero, suc, ◌%◌, eqb, get_or, Float}
use Rattle.std.proofs.Math.Path.{ap}
use Rattle.std.proofs.Math.Dec.{ltb}
use Rattle.rows.specs.Rows.{put}
use Rattle.rows.specs.Folds.{up_to}
use Rattle.desk_rows.specs.DeskRows.{mix_buffers, mix_offset, list_length, list_entry, destination_mix, configured_of}
use Rattle.params.specs.declared.params.Params.{Params}
use Rattle.state.specs.State.{mixes_of, mix_words_in, list_words_in, resource_floats, resources_in, destination_floats, destination_floats_in}
use Rattle.voice.specs.declared.Voice.{Voice}
use Rattle.voice_sends.specs.Sending.{taken, Passing, passing, sent, mix_sends, to_mix, destination_sent, entry_sent, list_sent, splitter_sends, by_splitter, Sent, sent_of, sends_of}
use Rattle.sending.specs.Sending.{routed, routed_floats}
use Rattle.voice_turn.specs.Played.{sent_floats}

-- ---- two runs

-- what step k of both keeps, n steps of both keep
pub up_to_both {ℓ ℓ' ℓ''} : {S : Type ℓ} {T : Type ℓ'} (R : S → T → Type ℓ'') (f : ℕ → S → S) (g : ℕ → T → T)
    → ((k : ℕ) (x : S) (y : T) → R x y → R (f k x) (g k y)) → (n : ℕ) (x : S) (y : T) → R x y → R (up_to f n x) (up_to g n y)
unfolding up_to
up_to_both R f g step zero x y h = h
up_to_both R f g step (suc n) x y h = step n (up_to f n x) (up_to g n y) (up_to_both R f g step n x y h)

-- a step that both leave out, or neither
cond_both {ℓ ℓ' ℓ''} : {S : Type ℓ} {T : Type ℓ'} (R : S → T → Type ℓ'') (b : Bool) {x x' : S} {y y' : T} → R x y → R x' y' → R (cond b x x') (cond b y y')
cond_both R true h h' = h
cond_both R false h h' = h'

-- ---- the gains of two runs of sends, of `out` and of `out'`

abbrev SameGains : Passing → Passing → Type 0
SameGains x y = x.gains ≡ y.gains

module _ (n : ℕ) (out out' : List Float) where
  sent_same : (offset count c id : ℕ) (x y : Passing) → SameGains x y → SameGains (sent n out offset count c id x) (sent n out' offset count c id y)
  unfolding sent
  sent_same offset count c id x y = ap (taken id)

  -- to one mix
  to_mix_same : (channels : ℕ) (ids mixes : List ℕ) (nm m : ℕ) (x y : Passing) → SameGains x y
      → SameGains (to_mix n out channels ids mixes nm m x) (to_mix n out' channels ids mixes nm m y)
  unfolding to_mix mix_sends
  to_mix_same channels ids mixes nm m x y h =
      cond_both SameGains (ltb m nm)
      (up_to_both SameGains _ _ (λ c. sent_same (mix_offset mixes m) (mix_buffers mixes m) c (get_or ids c 0)) channels x y h)
      h

  -- by a splitter
  module _ (channels : ℕ) (mixes : List ℕ) (nm : ℕ) (lists : List ℕ) (ns nd : ℕ) where
    entry_same : (s c k : ℕ) (x y : Passing) → SameGains x y
        → SameGains (entry_sent n out channels mixes nm lists ns nd s c k x) (entry_sent n out' channels mixes nm lists ns nd s c k y)
    unfolding entry_sent destination_sent
    entry_same s c k x y h =
        let d = list_entry lists s k in
        let m = destination_mix ns lists d in
        cond_both SameGains (eqb (k % channels) c)
        (cond_both SameGains (configured_of ns nd lists d && ltb m nm) (sent_same (mix_offset mixes m) (mix_buffers mixes m) c d x y h) h)
        h

    list_same : (s c : ℕ) (x y : Passing) → SameGains x y
        → SameGains (list_sent n out channels mixes nm lists ns nd s c x) (list_sent n out' channels mixes nm lists ns nd s c y)
    unfolding list_sent
    list_same s c = up_to_both SameGains _ _ (entry_same s c) (list_length lists s)

    by_splitter_same : (s : ℕ) (x y : Passing) → SameGains x y
        → SameGains (by_splitter n out channels mixes nm lists ns nd s x) (by_splitter n out' channels mixes nm lists ns nd s y)
    unfolding by_splitter splitter_sends
    by_splitter_same s x y h = cond_both SameGains (ltb s ns) (up_to_both SameGains _ _ (list_same s) channels x y h) h

-- ---- all sends of a voice

pub record SameRows (x y : Sent) : Type 0 where
  pub resources : x.resources ≡ y.resources
  pub destinations : x.destinations ≡ y.destinations

sends_same : (n : ℕ) (out out' : List Float) (channels : ℕ) (ids : List ℕ) (mix splitter : ℕ) (mixes : List ℕ) (nm : ℕ) (lists : List ℕ) (ns nd : ℕ)
    (resources destinations buffers buffers' : List Float)
    → SameRows (sends_of n out channels ids mix splitter mixes nm lists ns nd (sent_of buffers resources destinations))
    (sends_of n out' channels ids mix splitter mixes nm lists ns nd (sent_of buffers' resources destinations))
unfolding sends_of
sends_same n out out' channels ids mix splitter mixes nm lists ns nd resources destinations buffers buffers' =
    cond_both SameRows (eqb mix 0x7fffffff)
    (record {
      resources = refl;
      destinations = by_splitter_same n out out' channels mixes nm lists ns nd splitter (passing buffers destinations) (passing buffers' destinations) refl;
    })
    (record {
      resources = to_mix_same n out out' channels ids mixes nm mix (passing buffers resources) (passing buffers' resources) refl;
      destinations = refl;
    })

pub sent_floats_same : (d : Bool) (p : Params) (v : Voice) (words : List ℕ) (floats : List Float) (out out' buffers buffers' : List Float)
    → sent_floats d p v out words floats buffers ≡ sent_floats d p v out' words floats buffers'
unfolding sent_floats routed routed_floats
sent_floats_same false p v words floats out out' buffers buffers' = refl
sent_floats_same true p v words floats out out' buffers buffers' =
    let e = sends_same p.sample_count out out' v.channels v.channel_ids v.mix_id v.splitter_id (mix_words_in p words) (mixes_of p)
    (list_words_in p words) p.splitters p.splitter_destinations (resources_in p floats) (destination_floats_in p floats) buffers buffers' in
    λ i. put (put floats (resource_floats p) (e.resources i)) (destination_floats p) (e.destinations i)
