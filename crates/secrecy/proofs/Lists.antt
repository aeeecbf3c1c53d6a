-- Two sessions, call by call: what is said of each call, the bytes declared and the voices routed are the same whatever sample memory holds, and the frames of
-- call r are, where at each render up to it the memories agree on what the voices routed before it read. Assumes nothing.
use Rattle.std.specs.Prelude.{◌≡◌, refl, Bool, true, false, cond, ◌||◌, ℕ, zero, suc, ◌≤◌, ◌<◌, T, eqb}
use Rattle.std.proofs.Common.{ap, sym, subst, ◌∙◌, ⊎_elim, zero-le, suc-le-suc}
use mathlib.Core.List.{List, [], ◌∷◌, ◌++◌, map, nil≢cons, cons≢nil, head-eq_of_cons-eq, tail-eq_of_cons-eq}
use Rattle.ranges.specs.Ranges.{Range}
use Rattle.params.specs.declared.params.Params.{Params}
use Rattle.params.specs.Params.{params_of}
use Rattle.state.specs.State.{State, params_in}
use Rattle.state_voices.specs.StateVoices.{voice_in, voice_on}
use Rattle.render.specs.Render.{render_of}
use Rattle.alike.specs.Reads.{voice_reads}
use Rattle.update_alike.specs.Routes.{routes}
use Rattle.alike.specs.Alike.{Alike, live, Named}
use Rattle.secrecy.specs.Sessions.{Call, Shape, updates, renders, shape, after, Said, succeeds, state_at, said_all, frames_at}
use Rattle.secrecy.specs.Declared.{reads, spans_by, declares, declared, routes_by, routing, routed}
use Rattle.secrecy.specs.Demand.{call_at}
use Rattle.secrecy.specs.Both.{Both}
use Rattle.secrecy.proofs.Steps.{Fair, Stepped, step, heard_after}

or_left : (a b : Bool) → T a → T (a || b)
or_left true b t = tt
or_left false b t = absurd t

or_right : (a b : Bool) → T b → T (a || b)
or_right true b t = tt
or_right false b t = t

-- ---- with no voice at all: nothing is asked of the memories

abbrev pub None : ℕ → Type 0
None k = ⊥

module _ {p : Params} where
  pub unasked : {a b : State} → Both p None a b → (c c' : Call) → shape c ≡ shape c' → Stepped p None a b c c'
  unasked h c c' e = step h c c' e (λ k l n t. absurd n)

  pub said_same : {a b : State} → Both p None a b → (cs cs' : List Call) → map shape cs ≡ map shape cs' → said_all a cs ≡ said_all b cs'
  said_same h [] [] e = refl
  said_same h [] (c' ∷ cs') e = absurd (nil≢cons e)
  said_same h (c ∷ cs) [] e = absurd (cons≢nil e)
  said_same {a = a} {b = b} h (c ∷ cs) (c' ∷ cs') e =
      let s = unasked h c c' (head-eq_of_cons-eq e) in
      let rest = said_same {a = after a c} {b = after b c'} s.both cs cs' (tail-eq_of_cons-eq e) in
      λ i. s.same i ∷ rest i

  -- the states at a place of both lists
  pub both_at : {a b : State} → Both p None a b → (cs cs' : List Call) → map shape cs ≡ map shape cs' → (r : ℕ)
      → Both p None (state_at a cs r) (state_at b cs' r)
  both_at h [] [] e r = h
  both_at h [] (c' ∷ cs') e r = absurd (nil≢cons e)
  both_at h (c ∷ cs) [] e r = absurd (cons≢nil e)
  both_at h (c ∷ cs) (c' ∷ cs') e zero = h
  both_at {a = a} {b = b} h (c ∷ cs) (c' ∷ cs') e (suc r) = both_at {a = after a c} {b = after b c'} (unasked h c c' (head-eq_of_cons-eq e)).both cs cs' (tail-eq_of_cons-eq e) r

  -- ---- frames

  module _ (P : ℕ → Type 0) where
    -- where the voices that can be heard are of P and those routed by call c too, so are those that can be heard after it
    named_after : {a b : State} → Both p P a b → (c : Call) → Named p P (λ k. voice_in k a) → ((k : ℕ) → k < p.voices → T (routing a c k) → P k)
        → Named p P (λ k. voice_in k (after a c))
    named_after {a} h c named will k l t =
        let l' : k < (params_in a).voices = subst (λ (q : Params). k < q.voices) (sym h.params) l in
        ⊎_elim (λ (x : T (live (voice_in k a))). named k l x) (λ (x : T (routing a c k)). will k l x) (heard_after a h.left k l' c t)

    pub frames_same : (cs cs' : List Call) (r : ℕ) {a b : State} → Both p P a b → map shape cs ≡ map shape cs' → Named p P (λ k. voice_in k a)
        → ((k : ℕ) → k < p.voices → T (routed a cs r k) → P k)
        → ((j : ℕ) → j ≤ r → Fair p P (state_at a cs j) (call_at cs j) (call_at cs' j))
        → frames_at a cs r ≡ frames_at b cs' r
    frames_same [] [] r h e named will fair = refl
    frames_same [] (c' ∷ cs') r h e named will fair = absurd (nil≢cons e)
    frames_same (c ∷ cs) [] r h e named will fair = absurd (cons≢nil e)
    frames_same (c ∷ cs) (c' ∷ cs') zero h e named will fair = (step h c c' (head-eq_of_cons-eq e) (fair zero zero-le)).frames named
    frames_same (c ∷ cs) (c' ∷ cs') (suc r) {a} h e named will fair =
        let s = step h c c' (head-eq_of_cons-eq e) (fair zero zero-le) in
        frames_same cs cs' r s.both (tail-eq_of_cons-eq e)
        (named_after h c named (λ k l t. will k l (or_left (routing a c k) _ t)))
        (λ k l t. will k l (or_right (routing a c k) _ t))
        (λ j l. fair (suc j) (suc-le-suc l))

-- ---- places: the bytes that are declared and the voices that are routed

-- what a voice reads follows from what the states have in common and from the ranges
reads_same : {p : Params} {P : ℕ → Type 0} {a b : State} → Alike p P a b → (rs : List Range) (k : ℕ) → reads a rs k ≡ reads b rs k
unfolding reads
reads_same e rs k = λ i. voice_reads (render_of (params_of (e.words i)) rs) (voice_on k (e.words i) (e.longs i) (e.floats i))

spans_same : {p : Params} {P : ℕ → Type 0} {a b : State} → Alike p P a b → (s : Shape) (k : ℕ) → spans_by a s k ≡ spans_by b s k
spans_same e (updates expected input size) k = refl
spans_same e (renders rs size wide) k = reads_same e rs k

routes_same : {p : Params} {P : ℕ → Type 0} {a b : State} → Alike p P a b → (s : Shape) (k : ℕ) → routes_by a s k ≡ routes_by b s k
routes_same e (updates expected input size) k = λ i. routes (params_of (e.words i)) input k
routes_same e (renders rs size wide) k = refl

module _ {p : Params} {a b : State} (h : Both p None a b) (c c' : Call) (e : shape c ≡ shape c') where
  succeeds_same : succeeds a c ≡ succeeds b c'
  succeeds_same = ap (λ (s : Said). eqb s.number 0) (unasked h c c' e).same

  declares_same : (k : ℕ) → declares a c k ≡ declares b c' k
  declares_same k =
      let spans = spans_same h.alike (shape c) k ∙ ap (λ (s : Shape). spans_by b s k) e in
      λ i. cond (succeeds_same i) (spans i) []

  routing_same : (k : ℕ) → routing a c k ≡ routing b c' k
  routing_same k =
      let by = routes_same h.alike (shape c) k ∙ ap (λ (s : Shape). routes_by b s k) e in
      λ i. cond (succeeds_same i) (by i) false

module _ {p : Params} (k : ℕ) where
  pub declared_same : {a b : State} → Both p None a b → (cs cs' : List Call) → map shape cs ≡ map shape cs' → (r : ℕ) → declared a cs r k ≡ declared b cs' r k
  declared_same h [] [] e r = refl
  declared_same h [] (c' ∷ cs') e r = absurd (nil≢cons e)
  declared_same h (c ∷ cs) [] e r = absurd (cons≢nil e)
  declared_same h (c ∷ cs) (c' ∷ cs') e zero = declares_same h c c' (head-eq_of_cons-eq e) k
  declared_same {a = a} {b = b} h (c ∷ cs) (c' ∷ cs') e (suc r) =
      let first = declares_same h c c' (head-eq_of_cons-eq e) k in
      let rest = declared_same {a = after a c} {b = after b c'} (unasked h c c' (head-eq_of_cons-eq e)).both cs cs' (tail-eq_of_cons-eq e) r in
      λ i. first i ++ rest i

  pub routed_same : {a b : State} → Both p None a b → (cs cs' : List Call) → map shape cs ≡ map shape cs' → (r : ℕ) → routed a cs r k ≡ routed b cs' r k
  routed_same h [] [] e r = refl
  routed_same h [] (c' ∷ cs') e r = absurd (nil≢cons e)
  routed_same h (c ∷ cs) [] e r = absurd (cons≢nil e)
  routed_same h (c ∷ cs) (c' ∷ cs') e zero = refl
  routed_same {a = a} {b = b} h (c ∷ cs) (c' ∷ cs') e (suc r) =
      let first = routing_same h c c' (head-eq_of_cons-eq e) k in
      let rest = routed_same {a = after a c} {b = after b c'} (unasked h c c' (head-eq_of_cons-eq e)).both cs cs' (tail-eq_of_cons-eq e) r in
      λ i. first i || rest i
