-- The pieces put one behind the other are the block. Assumes nothing.
use mathlib.Core.List.{List, ◌++◌, append_assoc}
use mathlib.Core.Path.{◌≡◌, ap, sym, ◌∙◌}
use Prim.Native.Nat.{ℕ, ◌+◌, ◌*◌, ◌≤◌}
use native.Mathlib.Nat.{zero-add}
use native.Mathlib.Omega.{arith}
use lib.ListN.{length, length-append}
use Rattle.rows.specs.Rows.{put, put_more}
use Rattle.rows.specs.Tables.{joined}
use Rattle.merging.specs.Merge.{block_header, resource_size, record_size, merged_resource, merged_record}
use Rattle.merging.specs.Merge.{title_sections, written_header, merged_pools, behind_voices, merged_block}
use Rattle.merging.proofs.Lengths.{length_records, length_resources, length_written, length_pools, length_merged}

module _ (n : ℕ) (t c : List ℕ) {pools : ℕ} (pools_are : pools ≡ (title_sections t).behavior_size + (title_sections t).pools_size)
    {rest : List ℕ} (rest_is : rest ≡ behind_voices t) where
  abbrev front : List ℕ
  front = written_header n t ++ merged_pools t

  abbrev sections : List ℕ
  sections = joined n (merged_resource n t c) ++ joined n (merged_record t c)

  -- where the last piece begins
  abbrev rest_at : ℕ
  rest_at = block_header + pools + n * (resource_size + record_size)

  rest_long : length rest ≡ length (behind_voices t)
  rest_long = ap length rest_is

  pub size_is : rest_at + length rest ≡ length (merged_block n t c)
  size_is = omega (arith, length_merged n t c, pools_are, rest_long)

  length_front : length front ≡ block_header + pools
  length_front = rw (length-append, length_written, length_pools) (ap (λ (w : ℕ). block_header + w) (sym pools_are))

  length_sections : length sections ≡ n * (resource_size + record_size)
  length_sections = rw (length-append, length_resources, length_records) (omega arith)

  length_both : length (front ++ sections) ≡ rest_at
  length_both = rw (length-append, length_front, length_sections)

  pub block_laid : (output : List ℕ) {first second third : List ℕ} → rest_at + length rest ≤ length output → first ≡ put output 0 front
      → second ≡ put first (block_header + pools) sections → third ≡ put second rest_at rest → third ≡ put output 0 (merged_block n t c)
  unfolding merged_block
  block_laid output {first} {second} {third} fits e₁ e₂ e₃ =
      let at : (a : ℕ) (s r : List ℕ) → put s a r ≡ put s (0 + a) r = λ a s r. ap (λ (i : ℕ). put s i r) (sym (zero-add a)) in
      let two =
      put_more output 0 (block_header + pools) front sections length_front (omega (arith, length_sections)) e₁ (e₂ ∙ at _ first sections) in
      let all = put_more output 0 rest_at (front ++ sections) rest length_both (omega arith) two (e₃ ∙ at _ second rest) in
      all
      ∙ ap (λ (r : List ℕ). put output 0 (front ++ sections ++ r)) rest_is
      ∙ ap (λ (x : List ℕ). put output 0 (x ++ behind_voices t))
      (sym (append_assoc front (joined n (merged_resource n t c)) (joined n (merged_record t c))))
