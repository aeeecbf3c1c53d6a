-- What a session is computed with: to unfold `computing` is to unfold every definition that its calls reach. Definitions only.
use Rattle.adpcm.specs.Context.{coefficients_of, context_of}
use Rattle.adpcm.specs.Decode.{run_from, took_of, value_of}
use Rattle.adpcm.specs.Places.{nibble_of, size_of}
use Rattle.adpcm.specs.Runs.{count_from, holds}
use Rattle.adpcm.specs.Step.{clamp_z, signed4, step_of as adpcm_step}
use Rattle.calls.specs.Calls.{open_call, render_call, update_call}
use Rattle.desk.specs.Channels.{channel_record, channel_step, channels_of}
use Rattle.desk.specs.Records.{float_at}
use Rattle.desk.specs.Sinks.{device_row, is_device, sink_floats_if, sink_put, sink_record, sink_step, sink_words_if, sinks_of}
use Rattle.desk_mixes.specs.Mixes.{counts_before, dirty_only, mix_act, mix_base, mix_count, mix_floats, mix_floats_if, mix_head, mix_id, mix_put, mix_put_if}
use Rattle.desk_mixes.specs.Mixes.{mix_record, mix_records, mix_step, mix_volumes, mix_words, mix_words_if, mixes_of, mixes_read, offset_step, offsets_of}
use Rattle.desk_render.specs.DeskRender.{frames_by, mixed_by}
use Rattle.fields.specs.Fields.{bytes_of, field_at, flag_at, le as le_field, positive, rest_of, section_of}
use Rattle.frames.specs.Frames.{downmix_at, downmix_of, first_from, frames_of, plays_at, sink_at}
use Rattle.gain.specs.Gain.{mix_into, mixed, ramp_of, ramped, step_of as gain_step}
use Rattle.ranges.specs.Questions.{laid_of, near_of}
use Rattle.ranges.specs.Ranges.{readable_of}
use Rattle.memory.specs.Memory.{read_of}
use Rattle.mixing.specs.Mixing.{mixed_down}
use Rattle.opened.specs.Opened.{default_voice}
use Rattle.order.specs.Order.{at_distance, falling_from, hops_from, only}
use Rattle.params.specs.Params.{params_of, row_of}
use Rattle.params.specs.Sections.{sections_of}
use Rattle.params.specs.Sizes.{effects_bytes, fixed_of, info_bytes, pools_of, revision_of}
use Rattle.render_turns.specs.Turns.{voices_rendered}
use Rattle.render.specs.Render.{elapsed, rendered_on}
use Rattle.reply.specs.Reply.{back_of, effects_section, front_of, header_of, info_of, pools_of_input, reply_of, rest_bytes}
use Rattle.reply_sections.specs.Bytes.{words_bytes, zeros}
use Rattle.reply_sections.specs.Effects.{effect_at, effect_row, effect_rows, effect_state}
use Rattle.reply_sections.specs.Pools.{granted, pool_row, pool_word, pools_bytes}
use Rattle.reply_sections.specs.Voices.{heard_of, status_at, status_of, voices_bytes}
use Rattle.row_tests.specs.Desk.{lists_whole, mix_whole, mixes_whole, sinks_whole}
use Rattle.row_tests.specs.Limits.{rows_within, within}
use Rattle.row_tests.specs.Tests.{all, every, sum}
use Rattle.row_tests.specs.Voices.{some_channel, voice_whole, voice_words_whole, voices_whole}
use Rattle.secrecy.specs.Declared.{input_spans, reads}
use Rattle.sink.specs.Sink.{factors_of, frames, input_of, left_of, right_of, sample_of, side, sink_of, to_unit}
use Rattle.sound_rows.specs.SoundRow.{words_of_context}
use Rattle.splitters.specs.Destinations.{destination_step, destinations_from, newly_of, stored_floats, stored_words, stride_from, stride_of, used_of, volume_of, with_floats, with_words}
use Rattle.splitters.specs.Lists.{count_of, entry_of, next_of, splitter_step, splitters_from, with_list}
use Rattle.splitters.specs.Section.{records_from, records_of, rounded_up, splitters_of}
use Rattle.splitters.specs.Walk.{steps}
use Rattle.update_alike.specs.Routes.{routes}
use Rattle.updates.specs.Update.{after_desk, after_voices, changed, lists_size, mixes_at, voice_rows_in, with_lists, with_mixes, with_resources}
use Rattle.updates.specs.Update.{with_sinks, with_voices}
use Rattle.voice.specs.Play.{set_play}
use Rattle.voice.specs.Prepare.{flush_slot}
use Rattle.voice.specs.Sound.{silent_sound}
use Rattle.voice.specs.Wave.{offsets_valid, parse_of}
use Rattle.voice_records.specs.Record.{recorded}
use Rattle.voice_render.specs.RenderVoice.{render_voice}
use Rattle.voice_rows.specs.VoiceRow.{head_of, top_of}
use Rattle.voice_rows.specs.WaveRow.{longs_of_wave, wave_of, words_of_wave}
use Rattle.voice_sends.specs.Sending.{by_splitter, destination_sent, entry_sent, list_sent, mix_sends, ramped_row, sends_of, sent, splitter_sends, taken, to_mix}
use Rattle.voices.specs.Voices.{voices_of}
use Rattle.whole.specs.Whole.{lengths_right, rows_whole, whole_by}
use Rattle.std.specs.Float.Ieee.{div, is_nan, le, mul, of_bits, of_int, sub, to_unsigned}

unfoldable pub computing : Unit {0}
unfolding coefficients_of context_of run_from took_of value_of nibble_of size_of count_from holds clamp_z signed4 adpcm_step open_call render_call update_call channel_record
    channel_step channels_of flag_at float_at device_row is_device sink_floats_if sink_put sink_record sink_step sink_words_if sinks_of counts_before dirty_only mix_act mix_base
    mix_count mix_floats mix_floats_if mix_head mix_id mix_put mix_put_if mix_record mix_records mix_step mix_volumes mix_words mix_words_if mixes_of mixes_read offset_step offsets_of
    positive frames_by mixed_by bytes_of field_at le_field rest_of section_of downmix_at downmix_of first_from frames_of plays_at sink_at mix_into mixed ramp_of ramped gain_step
    laid_of near_of readable_of read_of mixed_down default_voice at_distance falling_from hops_from only params_of row_of sections_of effects_bytes
    fixed_of info_bytes pools_of revision_of elapsed rendered_on voices_rendered back_of effects_section front_of header_of info_of pools_of_input
    reply_of rest_bytes words_bytes zeros effect_at effect_row effect_rows
    effect_state granted pool_row pool_word pools_bytes heard_of status_at status_of voices_bytes lists_whole mix_whole mixes_whole sinks_whole rows_within within all every sum
    some_channel voice_whole voice_words_whole voices_whole input_spans reads factors_of frames input_of left_of right_of sample_of side sink_of to_unit words_of_context
    destination_step destinations_from newly_of stored_floats stored_words stride_from stride_of used_of volume_of with_floats with_words count_of entry_of next_of
    splitter_step splitters_from with_list records_from records_of rounded_up splitters_of steps routes after_desk after_voices changed lists_size
    mixes_at voice_rows_in with_lists with_mixes with_resources with_sinks with_voices set_play flush_slot silent_sound offsets_valid parse_of recorded
    render_voice head_of top_of longs_of_wave wave_of words_of_wave
    by_splitter destination_sent entry_sent list_sent mix_sends ramped_row sends_of sent splitter_sends taken to_mix voices_of lengths_right rows_whole whole_by div is_nan le mul
    of_bits of_int sub to_unsigned
computing = tt
