-- Laws of the reply's sections: how long each is, and what it is by case. Assumes nothing.
use Rattle.std.specs.Prelude.{◌≡◌, refl, Bool, true, false, cond, List, [], ◌++◌, ℕ, ◌+◌, ◌*◌, ◌≤◌, ◌<◌, leb, length, drop}
use Rattle.std.proofs.Common.{ap, sym, ◌∙◌, arith, le-leb, length-append, length-take}
use Rattle.std.proofs.lemmas.Bool.{lt-leb}
use Rattle.fields.specs.Fields.{section_of, bytes_of}
use Rattle.fields.specs.Writes.{length_bytes}
use Rattle.params.specs.declared.params.Params.{Params}
use Rattle.params.specs.Sizes.{revision_of, pools_of, info_bytes, fixed_of, effects_bytes, reply_length}
use Rattle.params.specs.Laws.{effects_whole}
use Rattle.reply_sections.specs.Bytes.{zeros, length_zeros, zeros_add, length_words}
use Rattle.reply_sections.specs.Pools.{length_pools}
use Rattle.reply_sections.specs.Voices.{length_voices}
use Rattle.reply_sections.specs.Effects.{effect_rows, length_effects_whole}
use Rattle.reply.specs.Reply.{header_of, pools_of_input, effects_section, rest_bytes, info_of, front_of, front_bytes, back_of, reply_of}

-- ---- by case

pub rest_zeros : (p : Params) → zeros (p.sinks * 0x20 + 0x10 + 0xb0) ≡ rest_bytes p
unfolding rest_bytes
rest_zeros p = sym (ap (λ (x : List ℕ). x ++ zeros 0xb0) (zeros_add (p.sinks * 0x20) 0x10) ∙ zeros_add (p.sinks * 0x20 + 0x10) 0xb0)

pub info_in : (p : Params) (elapsed : ℕ) → 5 ≤ revision_of p → info_of p elapsed ≡ bytes_of 8 elapsed ++ zeros 8
unfolding info_of
info_in p elapsed h = simp (le-leb 5 (revision_of p) h)

pub info_out : (p : Params) (elapsed : ℕ) → revision_of p < 5 → info_of p elapsed ≡ []
unfolding info_of
info_out p elapsed h = simp (lt-leb 5 (revision_of p) h)

-- ---- lengths

pub length_header : (p : Params) (e : ℕ) → length (header_of p e) ≡ 0x40
unfolding header_of
length_header p e = length_words _

pub length_pools_of : (p : Params) (input : List ℕ) → length (pools_of_input p input) ≡ pools_of p * 0x10
unfolding pools_of_input
length_pools_of p input = length_pools _ _ _ _

-- the effects of a reply
pub length_effects_all : (p : Params) (e : ℕ) (section : List ℕ) → length (effect_rows p.effects (effects_bytes p e) section) ≡ effects_bytes p e
length_effects_all p e section = length_effects_whole p.effects (effects_bytes p e) section (effects_whole p e)

pub length_rest : (p : Params) → length (rest_bytes p) ≡ p.sinks * 0x20 + 0xc0
unfolding rest_bytes
length_rest p = rw (length-append, length-append, length_zeros, length_zeros, length_zeros) (omega arith)

either_at_most : (b : Bool) (x : List ℕ) (n : ℕ) → length x ≤ n → length (cond b x []) ≤ n
either_at_most true x n h = h
either_at_most false x n h = omega arith

same_either : (b : Bool) (x : List ℕ) (n : ℕ) → length x ≡ n → length (cond b x []) ≡ cond b n 0
same_either true x n h = h
same_either false x n h = refl

pub length_info : (p : Params) (elapsed : ℕ) → length (info_of p elapsed) ≡ info_bytes p
unfolding info_of info_bytes
length_info p elapsed = same_either (leb 5 (revision_of p)) _ 0x10 (rw (length-append, length_bytes, length_zeros))

-- the effects' section is no longer than its size says
pub length_section_at_most : (s : List ℕ) (at n : ℕ) → length (section_of s at n) ≤ n
unfolding section_of
length_section_at_most s at n = either_at_most (leb (at + n) (length s)) _ n (omega (arith, length-take n (drop at s)))

-- the reply's two parts
pub length_front : (p : Params) (e : ℕ) (input words longs : List ℕ) → length (front_of p e input words longs) ≡ front_bytes p
unfolding front_of
length_front p e input words longs = rw (length-append, length-append, length_header, length_pools_of, length_voices)

pub length_back : (p : Params) (e : ℕ) (section : List ℕ) (elapsed : ℕ)
    → length (back_of p (effects_bytes p e) section elapsed) ≡ effects_bytes p e + (p.sinks * 0x20 + 0xc0) + info_bytes p
unfolding back_of
length_back p e section elapsed = rw (length-append, length-append, length_effects_all, length_rest, length_info)

pub reply_parts : (p : Params) (e : ℕ) → front_bytes p + (effects_bytes p e + (p.sinks * 0x20 + 0xc0) + info_bytes p) ≡ reply_length p e
unfolding reply_length fixed_of
reply_parts p e = omega arith

-- the reply is as long as its header says
pub length_reply : (p : Params) (e : ℕ) (input : List ℕ) (elapsed : ℕ) (words longs : List ℕ)
    → length (reply_of p e input elapsed words longs) ≡ reply_length p e
unfolding reply_of
length_reply p e input elapsed words longs =
    length-append (front_of p e input words longs) _ ∙ (λ k. length_front p e input words longs k + length_back p e (effects_section input) elapsed k) ∙ reply_parts p e
