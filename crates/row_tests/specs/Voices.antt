-- When the rows of voices are whole: voice i's words are the 58 from i * 58, its floats the 4 from i * 4. Assumes nothing.
use Rattle.std.specs.Prelude.{◌≡◌, refl, Bool, false, cond, List, [], ◌∷◌, ℕ, ◌+◌, ◌-◌, ◌*◌, ◌≤◌, ◌<◌, leb, eqb, Float, length}
use Rattle.std.proofs.Common.{sym, arith}
use Rattle.std.proofs.Math.Path.{subst}
use Rattle.std.proofs.Math.Bool.{true}
use Rattle.std.proofs.Math.Nat.{add-zero}
use borrow.Author.Tests.{leb-true, le-leb, eq-eqb, ne_eqb}
use Rattle.std.proofs.Math.Dec.{T}
use Rattle.std.specs.Float.{nan}
use Rattle.std.proofs.Math.ListN.{get_or}
use Rattle.floats.specs.Unit.{in_unit}
use Rattle.row_tests.specs.Tests.{every, every_at, all, all_at, all_each}
use Rattle.row_tests.specs.Limits.{Table, table, within, within_at, rows_within, rows_at, rows_each}

-- in_use, fresh, play, channels, base_index and index
abbrev pub voice_fields : List ℕ
voice_fields = 0 ∷ 1 ∷ 2 ∷ 5 ∷ 7 ∷ 22 ∷ []

abbrev pub voice_limits : List ℕ
voice_limits = 1 ∷ 1 ∷ 3 ∷ 6 ∷ 3 ∷ 3 ∷ []

-- of a wave buffer's 8 words: looping, end_of_stream and pending
abbrev pub wave_fields : List ℕ
wave_fields = 2 ∷ 3 ∷ 7 ∷ []

abbrev pub wave_limits : List ℕ
wave_limits = 1 ∷ 1 ∷ 1 ∷ []

pub voice_table : Table 58 voice_fields voice_limits
unfolding all
voice_table = table 58 voice_fields voice_limits refl refl

pub wave_table : Table 8 wave_fields wave_limits
unfolding all
wave_table = table 8 wave_fields wave_limits refl refl

-- a voice's words, where `last` is the last voice's number: its fields, six channel ids, four valid flags and four wave buffers
abbrev pub voice_word_tests : List ℕ → ℕ → ℕ → List Bool
voice_word_tests words at last =
    within words at voice_fields voice_limits
    ∷ rows_within words (at + 12) 6 1 (0 ∷ []) (last ∷ [])
    ∷ rows_within words (at + 18) 4 1 (0 ∷ []) (1 ∷ [])
    ∷ rows_within words (at + 26) 4 8 wave_fields wave_limits
    ∷ []

unfoldable pub voice_words_whole : List ℕ → ℕ → ℕ → Bool
voice_words_whole words at last = every (voice_word_tests words at last)

-- a voice in use has a channel
unfoldable pub some_channel : ℕ → ℕ → Bool
some_channel used channels = cond (eqb used 0) true (leb 1 channels)

-- voice i of n: its words, its channels, its fraction
abbrev pub voice_tests : ℕ → List ℕ → List Float → ℕ → List Bool
voice_tests n words floats i =
    voice_words_whole words (i * 58) (n - 1)
    ∷ some_channel (get_or words (i * 58) 0) (get_or words (i * 58 + 5) 0)
    ∷ in_unit (get_or floats (i * 4 + 3) nan)
    ∷ []

unfoldable pub voice_whole : ℕ → List ℕ → List Float → ℕ → Bool
voice_whole n words floats i = every (voice_tests n words floats i)

unfoldable pub voices_whole : ℕ → List ℕ → List Float → Bool
voices_whole n words floats = all n (voice_whole n words floats)

-- there is room for n voices
pub record Room (n : ℕ) (words : List ℕ) (floats : List Float) : Type 0 where
  pub few : n ≤ 64
  pub words_long : n * 58 ≤ length words
  pub floats_long : n * 4 ≤ length floats

-- ---- as facts

pub record VoiceWhole (n : ℕ) (words : List ℕ) (floats : List Float) (i : ℕ) : Type 0 where
  pub used : get_or words (i * 58) 0 ≤ 1
  pub fresh : get_or words (i * 58 + 1) 0 ≤ 1
  pub play : get_or words (i * 58 + 2) 0 ≤ 3
  pub channels : get_or words (i * 58 + 5) 0 ≤ 6
  pub some_channel_lem : (get_or words (i * 58) 0 ≡ 0 → ⊥) → 1 ≤ get_or words (i * 58 + 5) 0
  pub base_index : get_or words (i * 58 + 7) 0 < 4
  pub ids : (k : ℕ) → k < 6 → get_or words (i * 58 + 12 + k) 0 < n
  pub valid : (k : ℕ) → k < 4 → get_or words (i * 58 + 18 + k) 0 ≤ 1
  pub index : get_or words (i * 58 + 22) 0 < 4
  pub looping : (b : ℕ) → b < 4 → get_or words (i * 58 + 26 + b * 8 + 2) 0 ≤ 1
  pub end_of_stream : (b : ℕ) → b < 4 → get_or words (i * 58 + 26 + b * 8 + 3) 0 ≤ 1
  pub pending : (b : ℕ) → b < 4 → get_or words (i * 58 + 26 + b * 8 + 7) 0 ≤ 1
  pub fraction : T (in_unit (get_or floats (i * 4 + 3) nan))

channel_fact : (u n : ℕ) → some_channel u n ≡ true → (u ≡ 0 → ⊥) → 1 ≤ n
unfolding some_channel
channel_fact u n h ne = leb-true 1 n (rw (ne_eqb u 0 ne) at h)

channel_is : (u n : ℕ) → ((u ≡ 0 → ⊥) → 1 ≤ n) → some_channel u n ≡ true
unfolding some_channel
channel_is u n h = go (eqb u 0) refl
  where
    go : (b : Bool) → eqb u 0 ≡ b → cond b true (leb 1 n) ≡ true
    go true e = refl
    go false e = le-leb 1 n (h (λ q. absurd (subst T e (subst T (sym (eq-eqb u 0 q)) tt))))

-- rows of one word: word k of them
word_at : (s : List ℕ) (base n m k : ℕ) → rows_within s base n 1 (0 ∷ []) (m ∷ []) ≡ true → k < n → get_or s (base + k) 0 ≤ m
word_at s base n m k h l =
    let e : base + k * 1 + 0 ≡ base + k = omega arith in
    rw e at (within_at s (base + k * 1) (0 ∷ []) (m ∷ []) (rows_at s base n 1 (0 ∷ []) (m ∷ []) h k l) 0 (omega arith) (omega arith))

words_are : (s : List ℕ) (base n m : ℕ) → ((k : ℕ) → k < n → get_or s (base + k) 0 ≤ m) → rows_within s base n 1 (0 ∷ []) (m ∷ []) ≡ true
unfolding within
words_are s base n m h =
    rows_each s base n 1 (0 ∷ []) (m ∷ [])
    (λ k l. let e : base + k * 1 + 0 ≡ base + k = omega arith in simp (e, le-leb _ _ (h k l)))

-- wave buffer b: its three flags
wave_at_lem : (s : List ℕ) (base n b : ℕ) → rows_within s base n 8 wave_fields wave_limits ≡ true → b < n
    → (k : ℕ) → k < 3 → get_or s (base + b * 8 + get_or wave_fields k 0) 0 ≤ get_or wave_limits k 0
wave_at_lem s base n b h l k j = within_at s (base + b * 8) wave_fields wave_limits (rows_at s base n 8 wave_fields wave_limits h b l) k j j

is_true : (b : Bool) → T b → b ≡ true
is_true true h = refl
is_true false h = absurd h

module _ (n : ℕ) (words : List ℕ) (floats : List Float) (i : ℕ) where
  pub voice_facts : i < n → voice_whole n words floats i ≡ true → VoiceWhole n words floats i
  unfolding voice_whole voice_words_whole
  voice_facts l h =
      let at = i * 58 in
      let t = every_at (voice_tests n words floats i) h in
      let w = every_at (voice_word_tests words at (n - 1)) (t 0) in
      let field = within_at words at voice_fields voice_limits (w 0) in
      record {
        used = simp add-zero at (field 0 (omega arith) (omega arith));
        fresh = field 1 (omega arith) (omega arith);
        play = field 2 (omega arith) (omega arith);
        channels = field 3 (omega arith) (omega arith);
        some_channel_lem = channel_fact _ _ (t 1);
        base_index = omega (arith, field 4 (omega arith) (omega arith));
        ids = λ k j. omega (arith, word_at words (at + 12) 6 (n - 1) k (w 1) j);
        valid = λ k j. word_at words (at + 18) 4 1 k (w 2) j;
        index = omega (arith, field 5 (omega arith) (omega arith));
        looping = λ b k. wave_at_lem words (at + 26) 4 b (w 3) k 0 (omega arith);
        end_of_stream = λ b k. wave_at_lem words (at + 26) 4 b (w 3) k 1 (omega arith);
        pending = λ b k. wave_at_lem words (at + 26) 4 b (w 3) k 2 (omega arith);
        fraction = subst T (sym (t 2)) tt;
      }

  pub voice_is : VoiceWhole n words floats i → voice_whole n words floats i ≡ true
  unfolding voice_whole voice_words_whole within every
  voice_is v =
      let at = i * 58 in
      let base : get_or words (at + 7) 0 ≤ 3 = omega (arith, v.base_index) in
      let index : get_or words (at + 22) 0 ≤ 3 = omega (arith, v.index) in
      let fields : within words at voice_fields voice_limits ≡ true =
      simp (add-zero, le-leb _ _ v.used, le-leb _ _ v.fresh, le-leb _ _ v.play, le-leb _ _ v.channels, le-leb _ _ base, le-leb _ _ index) in
      let waves : rows_within words (at + 26) 4 8 wave_fields wave_limits ≡ true =
      rows_each words (at + 26) 4 8 wave_fields wave_limits
      (λ b k. simp (le-leb _ _ (v.looping b k), le-leb _ _ (v.end_of_stream b k), le-leb _ _ (v.pending b k))) in
      let ids = words_are words (at + 12) 6 (n - 1) (λ k j. omega (arith, v.ids k j)) in
      let valid = words_are words (at + 18) 4 1 v.valid in
      rw (fields, ids, valid, waves, channel_is _ _ v.some_channel_lem, is_true (in_unit (get_or floats (i * 4 + 3) nan)) v.fraction)

module _ (n : ℕ) (words : List ℕ) (floats : List Float) where
  pub voices_facts : voices_whole n words floats ≡ true → (i : ℕ) → i < n → VoiceWhole n words floats i
  unfolding voices_whole
  voices_facts h i l = voice_facts n words floats i l (all_at (voice_whole n words floats) n h i l)

  pub voices_are : ((i : ℕ) → i < n → VoiceWhole n words floats i) → voices_whole n words floats ≡ true
  unfolding voices_whole
  voices_are h = all_each (voice_whole n words floats) n (λ i l. voice_is n words floats i (h i l))
