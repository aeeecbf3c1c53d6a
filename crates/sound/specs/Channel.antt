-- The rounds of a fetch on one channel's row, one after the other. Assumes nothing.
use Rattle.std.specs.Prelude.{ℕ, ◌+◌, ◌-◌, ◌≤◌, ◌<◌, Bool, true, ◌≡◌, refl, Float, ℤ, drop, get_or, set}
use Rattle.std.proofs.Common.{arith, ap, ◌∙◌, length-append, length-drop, take-append-drop, length-set, length-take-le, take_at, drop_at, drop-drop}
use mathlib.Core.List.{List, [], ◌∷◌, ◌++◌, append-nil, append_assoc}
use Rattle.std.proofs.Math.Path.{sym, subst}
use Rattle.std.specs.Float.{nan}
use Rattle.std.proofs.Math.ListN.{length, take, replicate}
use Rattle.std.proofs.lemmas.List.{length-replicate}
use Rattle.adpcm.specs.declared.context.AdpcmContext.{AdpcmContext}
use Rattle.ranges.specs.Ascending.{Ascending}
use Rattle.plan.specs.Source.{Source}
use Rattle.plan.specs.declared.Act.{Act}
use Rattle.plan.specs.Rounds.{Round, round_plan, more, Planned, plan_of}
use Rattle.plan.specs.Fetch.{sofar, Planning, plan_begin, plan_more}
use Rattle.voice.specs.declared.queue.Queue.{Queue}
use Rattle.plan.specs.Fits.{made_of, made_le, Reads, Rounded, rounded}
use Rattle.floats.specs.Defs.{zero32}
use Rattle.sound.specs.Sound.{Deck, renewed_context, perform, perform_all, row_of}
use Rattle.sound.specs.Perform.{fresh, RoomAt, PerformedAt, decode_after, decode_count}

-- what a fetch asks: a buffer plays, the row has 3 places and one for each sample, and the ranges ascend over the memory
pub record Ready (q : Queue) (s : Source) (m : List ℕ) (row : List Float) : Type 0 where
  pub history : 3 ≤ length row
  pub long : length row ≤ 4100
  pub index : q.index < 4
  pub some : 0 < s.channels
  pub channels : s.channels ≤ 6
  pub memory : Ascending (length m) 0 s.ranges

-- what is left: the row, and the ADPCM context
pub record Fetched (history : List Float) (count done : ℕ) (k : Deck) (out : List Float) (x : AdpcmContext) : Type 0 where
  pub row : out ≡ row_of history count done k
  pub context : x ≡ k.adpcm

-- so of a fetch of count samples from a queue, for channel c
abbrev pub FetchedBy : Queue → Source → List ℕ → List ℤ → ℕ → AdpcmContext → List Float → ℕ → List Float → AdpcmContext → Type 0
FetchedBy q s m table c x₀ history count out x =
    let p = plan_of q s count in
    Fetched history count p.done (perform_all s m table c p.acts (fresh x₀)) out x

-- ---- what an act makes

-- the samples of an act do not depend on those before it
pub perform_after : (s : Source) (m : List ℕ) (table : List ℤ) (c : ℕ) (a : Act) (x : AdpcmContext) (o : List Float)
    → perform s m table c a (record { adpcm = x; out = o })
    ≡ record { adpcm = (perform s m table c a (fresh x)).adpcm; out = o ++ (perform s m table c a (fresh x)).out }
unfolding perform
perform_after s m table c a x o = decode_after s m table c a.decode (renewed_context s.ranges m a.context x) o

-- there are as many as the plan says
pub perform_count : (s : Source) (m : List ℕ) (table : List ℤ) (c : ℕ) (a : Act) (x : AdpcmContext) → Ascending (length m) 0 s.ranges → Reads s a
    → length (perform s m table c a (fresh x)).out ≡ made_of a.decode
unfolding perform
perform_count s m table c a x h r = decode_count s m table c a.decode (renewed_context s.ranges m a.context x) h r.decode

all_none : (s : Source) (m : List ℕ) (table : List ℤ) (c : ℕ) (k : Deck) → perform_all s m table c [] k ≡ k
unfolding perform_all
all_none s m table c k = refl

all_append : (s : Source) (m : List ℕ) (table : List ℤ) (c : ℕ) (acts : List Act) (a : Act) (k : Deck)
    → perform_all s m table c (acts ++ (a ∷ [])) k ≡ perform s m table c a (perform_all s m table c acts k)
unfolding perform_all
all_append s m table c [] a k = refl
all_append s m table c (b ∷ acts) a k = all_append s m table c acts a (perform s m table c b k)

-- one act more
pub all_after : (s : Source) (m : List ℕ) (table : List ℤ) (c : ℕ) (acts : List Act) (a : Act) (k : Deck)
    → (let d = perform_all s m table c acts k in
    let new = perform s m table c a (fresh d.adpcm) in
    perform_all s m table c (acts ++ (a ∷ [])) k ≡ record { adpcm = new.adpcm; out = d.out ++ new.out })
all_after s m table c acts a k =
    let d = perform_all s m table c acts k in
    all_append s m table c acts a k ∙ perform_after s m table c a d.adpcm d.out

regroup : (h o n r : List Float) → (h ++ o) ++ (n ++ r) ≡ (h ++ (o ++ n)) ++ r
regroup h o n r = simp append_assoc

-- ---- the row, after k rounds

-- the samples so far stand behind the three of the history, and are what the acts so far make
pub record Playing (q : Queue) (s : Source) (m : List ℕ) (table : List ℤ) (c count : ℕ) (x₀ : AdpcmContext) (row₀ row : List Float)
    (w : Queue) (x : AdpcmContext) (done k : ℕ) (going : Bool) : Type 0 where
  pub acts : List Act
  pub o : List Float
  pub rest : List Float
  pub planning : Planning s count q acts w done k going
  pub room : 3 + count ≡ length row₀
  pub row_is : row ≡ (take 3 row₀ ++ o) ++ rest
  pub place : length o ≡ done
  pub whole : 3 + done + length rest ≡ length row₀
  pub made : perform_all s m table c acts (fresh x₀) ≡ record { adpcm = x; out = o }

playing_none : {q : Queue} (s : Source) (m : List ℕ) (table : List ℤ) (c : ℕ) {count : ℕ} (x₀ : AdpcmContext) (row₀ : List Float)
    {going : Bool} → 3 + count ≡ length row₀ → q.index < 4 → going ≡ more true q 0 count
    → Playing q s m table c count x₀ row₀ row₀ q x₀ 0 0 going
playing_none s m table c x₀ row₀ n h e = record {
  acts = [];
  o = [];
  rest = drop 3 row₀;
  planning = plan_begin s _ _ h e;
  room = n;
  row_is = sym (take-append-drop 3 row₀) ∙ ap (λ (l : List Float). l ++ drop 3 row₀) (sym (append-nil (take 3 row₀)));
  place = refl;
  whole = simp length-drop (omega arith);
  made = all_none s m table c (fresh x₀);
}

module _ {q : Queue} {s : Source} {m : List ℕ} {table : List ℤ} {c count : ℕ} {x₀ : AdpcmContext} {row₀ row : List Float} {w : Queue}
    {x : AdpcmContext} {done k : ℕ} {going : Bool} (p : Playing q s m table c count x₀ row₀ row w x done k going) where
  front_long : length (take 3 row₀ ++ p.o) ≡ 3 + done
  front_long = rw length-append (omega (arith, length-take-le 3 row₀ (omega (arith, p.room)), p.place))

  row_long : length row ≡ length row₀
  row_long = rw (p.row_is, length-append, front_long) p.whole

  behind : drop (3 + done) row ≡ p.rest
  behind = ap (drop (3 + done)) p.row_is ∙ drop_at (take 3 row₀ ++ p.o) p.rest (3 + done) front_long

  before : take (3 + done) row ≡ take 3 row₀ ++ p.o
  before = ap (take (3 + done)) p.row_is ∙ take_at (take 3 row₀ ++ p.o) p.rest (3 + done) front_long

  -- the round that comes next
  module _ {r : Round} (e : r ≡ round_plan w s (count - done)) (laid : Ascending (length m) 0 s.ranges) where
    kept : Rounded w s (count - done) r
    kept = subst (Rounded w s (count - done)) (sym e) (rounded w s (count - done))

    act_room : s.channels ≤ 6 → length row₀ ≤ 4100 → RoomAt s m r.act.decode (3 + done) row
    act_room g few = record {
      memory = laid;
      channels = g;
      want = omega (arith, row_long, kept.room, p.planning.upto, p.room);
      few = omega (arith, kept.room, p.room);
      reads = kept.reads.decode;
      formed = kept.reads.formed;
    }

    playing_more : {row' : List Float} {y : AdpcmContext} {n : ℕ} {going' : Bool}
        → PerformedAt (3 + done) (perform s m table c r.act (fresh x)) row row' n y → k < 64 → going ≡ true
        → going' ≡ more r.going r.queue (done + r.got) count
        → Playing q s m table c count x₀ row₀ row' r.queue y (done + r.got) (k + 1) going'
    playing_more {row'} {y} {n} f h t g =
        let a = r.act in
        let new = (perform s m table c a (fresh x)).out in
        let got : n ≡ r.got = f.count ∙ perform_count s m table c a x laid kept.reads ∙ kept.made in
        record {
          acts = p.acts ++ (a ∷ []);
          o = p.o ++ new;
          rest = drop n p.rest;
          planning = plan_more p.planning e h t g;
          room = p.room;
          row_is = f.output ∙ (λ i. before i ++ (new ++ (sym (drop-drop n (3 + done) row) ∙ ap (drop n) behind) i))
              ∙ regroup (take 3 row₀) p.o new (drop n p.rest);
          place = rw length-append (omega (arith, f.count, got, p.place));
          whole = rw length-drop (omega (arith, p.whole, kept.room, kept.made, made_le a.decode, got, p.planning.upto, p.room));
          made = all_after s m table c p.acts a (fresh x₀)
              ∙ (λ i.
              let next = perform s m table c a (fresh (p.made i).adpcm) in
              record { adpcm = next.adpcm; out = (p.made i).out ++ next.out })
              ∙ (λ i. record { adpcm = sym f.context i; out = p.o ++ new });
        }

  -- no round is left, and zeros fill the rest
  playing_end : {row' : List Float} → sofar s p.acts w done k ≡ plan_of q s count
      → row' ≡ take (3 + done) row ++ replicate (length row - (3 + done)) zero32
      → FetchedBy q s m table c x₀ (take 3 row₀) count row' x
  unfolding row_of
  playing_end {row'} e f =
      let left : length row - (3 + done) ≡ count - done = omega (arith, row_long, p.room) in
      let k' = sym p.made in
      subst (λ (t : Planned). Fetched (take 3 row₀) count t.done (perform_all s m table c t.acts (fresh x₀)) row' x) e
      (record {
        row = f ∙ (λ i. before i ++ replicate (left i) zero32) ∙ append_assoc (take 3 row₀) p.o _
            ∙ (λ i. take 3 row₀ ++ ((k' i).out ++ replicate (count - done) zero32));
        context = λ i. (k' i).adpcm;
      })

-- the three of the history at the front
front_set : (z : Float) (h row : List Float) → length h ≡ 3 → 3 ≤ length row → take 3 (set (set (set row 0 (get_or h 0 z)) 1 (get_or h 1 z)) 2 (get_or h 2 z)) ≡ h
front_set z [] row e l = absurd (omega arith)
front_set z (a ∷ []) row e l = absurd (omega arith)
front_set z (a ∷ b ∷ []) row e l = absurd (omega arith)
front_set z (a ∷ b ∷ c ∷ d ∷ h) row e l = absurd (omega arith)
front_set z (a ∷ b ∷ c ∷ []) [] e l = absurd (omega arith)
front_set z (a ∷ b ∷ c ∷ []) (r ∷ []) e l = absurd (omega arith)
front_set z (a ∷ b ∷ c ∷ []) (r ∷ s ∷ []) e l = absurd (omega arith)
front_set z (a ∷ b ∷ c ∷ []) (r ∷ s ∷ t ∷ row) e l = refl

-- ---- what the code asks

-- a row with the history in front
abbrev pub headed : List Float → List Float → List Float
headed h row = set (set (set row 0 (get_or h 0 nan)) 1 (get_or h 1 nan)) 2 (get_or h 2 nan)

pub length_headed : (h row : List Float) → length (headed h row) ≡ length row
length_headed h row = simp length-set

module _ {q : Queue} {s : Source} {m : List ℕ} {row : List Float} (h : List Float) (r : Ready q s m row) where
  pub going_none : {table : List ℤ} {c : ℕ} {x₀ : AdpcmContext} {count : ℕ} {going : Bool} → count ≡ length row - 3
      → going ≡ more true q 0 count
      → Playing q s m table c count x₀ (headed h row) (headed h row) q x₀ 0 0 going
  going_none {table} {c} {x₀} n e =
      playing_none s m table c x₀ (headed h row) (omega (arith, length_headed h row, r.history)) r.index e

  module _ {table : List ℤ} {c : ℕ} {x₀ : AdpcmContext} {count : ℕ} {l : List Float} {w : Queue} {x : AdpcmContext} {done k : ℕ}
      {going : Bool} (g : Playing q s m table c count x₀ (headed h row) l w x done k going) where
    pub going_long : length l ≡ length row
    going_long = row_long g ∙ length_headed h row

    pub going_count : 3 + count ≡ length row
    going_count = g.room ∙ length_headed h row

    pub going_place : 3 + done ≤ length l
    going_place = omega (arith, going_long, g.whole, length_headed h row)

    module _ {t : Round} (e : t ≡ round_plan w s (count - done)) where
      pub going_room : RoomAt s m t.act.decode (3 + done) l
      going_room = act_room g e r.memory r.channels (omega (arith, length_headed h row, r.long))

      pub going_more : {l' : List Float} {y : AdpcmContext} {n : ℕ} {going' : Bool}
          → PerformedAt (3 + done) (perform s m table c t.act (fresh x)) l l' n y → k < 64 → going ≡ true
          → going' ≡ more t.going t.queue (done + t.got) count
          → Playing q s m table c count x₀ (headed h row) l' t.queue y (done + t.got) (k + 1) going'
      going_more f b a d = playing_more g e r.memory f b a d

    pub going_same : {l' : List Float} → l' ≡ take (3 + done) l ++ replicate (length l - (3 + done)) zero32 → length l' ≡ length row
    going_same f = rw (f, length-append, length-replicate, length-take-le (3 + done) l going_place) (omega (arith, going_place, going_long))

    pub going_end : {l' : List Float} → length h ≡ 3 → sofar s g.acts w done k ≡ plan_of q s count
        → l' ≡ take (3 + done) l ++ replicate (length l - (3 + done)) zero32
        → FetchedBy q s m table c x₀ h (length row - 3) l' x
    going_end {l'} e n f =
        let k : count ≡ length row - 3 = omega (arith, going_count) in
        rw (front_set nan h row e r.history) at
        (subst (λ (n : ℕ). FetchedBy q s m table c x₀ (take 3 (headed h row)) n l' x) k (playing_end g n f))
