-- The wave of a load and of a store that hits, of 60 clocks: what the definition gives of it.
use Rattle.std.specs.Prelude.{◌≡◌, ◌+◌, List, [], ◌∷◌, ◌++◌, codes, replicate}
use Rattle.std.specs.Fmt.{digits}
use Rattle.std.proofs.Common.{refl}
use Rattle.fsb_count.specs.Clocks.{all_where}
use Rattle.fsb_signal.specs.declared.sample.Sample.{Sample}
use Rattle.fsb_signal.specs.Samples.{known_sample, idle}
use Rattle.fsb_wave.specs.WaveText.{mark_of, mark_at, drawing, asserts_at, has_request, request_text, data_text}
use Rattle.fsb_wave.specs.WaveText.{clock_count_text, text_at, drawings, texts_where, lines_behind, lines_below}
use Rattle.fsb_wave.specs.WaveText.{lines_over, wave_lines}

-- BREQ0# at 0 to 2, ADS# at 2; a read of address 40; the response and DRDY# from 8 on, DBSY# to 10
abbrev run : List Sample
run =
    known_sample 1 0 0 0 ∷ known_sample 1 0 0 0 ∷ known_sample 129 6 8 0 ∷ known_sample 0 2 2 0
    ∷ idle ∷ idle ∷ idle ∷ idle
    ∷ known_sample (4096 + 8192 + 16384 + 65536 + 131072) 0 0 7 ∷ known_sample (65536 + 131072) 0 0 0
    ∷ known_sample (65536 + 131072) 0 0 0 ∷ known_sample 131072 0 0 0 ∷ []

abbrev trace : List Sample
trace = run ++ replicate 48 idle

pub wave_of_a_load : wave_lines trace 0 11 ≡
    (codes "BREQ0 ###.........\n" ∷ codes "BREQ1 ............\n" ∷ codes "BREQ2 ............\n"
    ∷ codes "BREQ3 ............\n" ∷ codes "BPRI  ............\n" ∷ codes "LOCK  ............\n"
    ∷ codes "BNR   ............\n" ∷ codes "ADS   ..#.........\n" ∷ codes "AERR  ............\n"
    ∷ codes "HIT   ............\n" ∷ codes "HITM  ............\n" ∷ codes "DEFER ............\n"
    ∷ codes "RS0   ........#...\n" ∷ codes "RS1   ........#...\n" ∷ codes "RS2   ........#...\n"
    ∷ codes "TRDY  ............\n" ∷ codes "DBSY  ........###.\n" ∷ codes "DRDY  ........####\n"
    ∷ codes "AP0   ............\n" ∷ codes "AP1   ............\n" ∷ codes "RP    ............\n"
    ∷ codes "A 2 40 6\n" ∷ codes "A 3 10 2\n" ∷ codes "D 8 7\n" ∷ codes "D 9 0\n" ∷ codes "D 10 0\n"
    ∷ codes "D 11 0\n" ∷ codes "clocks=60\n" ∷ [])
unfolding digits all_where mark_of mark_at drawing asserts_at has_request request_text data_text
    clock_count_text text_at drawings texts_where lines_behind lines_below lines_over
wave_of_a_load = refl

-- past its end a trace has names alone
pub wave_past_the_end : wave_lines trace 70 71 ≡
    (codes "BREQ0 \n" ∷ codes "BREQ1 \n" ∷ codes "BREQ2 \n" ∷ codes "BREQ3 \n" ∷ codes "BPRI  \n" ∷ codes "LOCK  \n"
    ∷ codes "BNR   \n" ∷ codes "ADS   \n" ∷ codes "AERR  \n" ∷ codes "HIT   \n" ∷ codes "HITM  \n" ∷ codes "DEFER \n"
    ∷ codes "RS0   \n" ∷ codes "RS1   \n" ∷ codes "RS2   \n" ∷ codes "TRDY  \n" ∷ codes "DBSY  \n" ∷ codes "DRDY  \n"
    ∷ codes "AP0   \n" ∷ codes "AP1   \n" ∷ codes "RP    \n" ∷ codes "clocks=60\n" ∷ [])
unfolding digits all_where mark_of mark_at drawing asserts_at has_request request_text data_text
    clock_count_text text_at drawings texts_where lines_behind lines_below lines_over
wave_past_the_end = refl
