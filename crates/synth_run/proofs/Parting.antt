-- The parts of an input that begins with bytes, by those of the lines of these.
use Rattle.std.proofs.Common.{◌≡◌, ℕ, ◌-◌, ◌≤◌, ◌<◌, List, [], ◌++◌, Bool, true, false, Option, Some, None, length, take, refl, sym, ap, ◌∙◌, append-nil, arith}
use Rattle.std.specs.Prelude.{◌&&◌, ◌||◌, filter, not, if◌then◌else◌}
use Rattle.std.specs.List.{list_any}
use Rattle.synth_io.specs.declared.input.TheConstants.{LIMIT}
use Rattle.desk_read.specs.Taking.{OpenBlock}
use Rattle.synth_run.specs.Desks.{Part, ended_parts, ends_input, input_parts, is_whole_part, part_of, parts_from, passes_limit, unclosed, up_to_end}
use Rattle.synth_run.specs.Lines.{Lines, all_lines, is_unended, last_line, lines_of, read_lines}
use Rattle.synth_run.specs.Routes.{PartsOf}
use Rattle.synth_run.specs.Session.{is_long}
use Rattle.synth_run.specs.Taking.{BeginsBytes, TakesBytes, lines_before}
use Rattle.synth_run.proofs.Commanding.{all_by, ended_by, filter_front, is_past, not_long, not_over, take_limit}
use Rattle.synth_run.proofs.LineLemmas.{not_ended}
use Rattle.synth_run.proofs.Speaking.{any_both}

-- the last line of a block that is open at the end of an input has not come
none_open : (desk : ℕ) (block : Option OpenBlock) → filter is_whole_part (part_of desk (unclosed block)) ≡ []
none_open desk None = refl
none_open desk (Some block) = refl

module _ (count next : ℕ) (inner : Option OpenBlock) (lines : List (List ℕ)) (ended : Bool) (parts : List Part) (are : PartsOf count 1 None (read_lines lines) ended parts next inner) where
  ended_first : (input : List ℕ) (others : Lines) → lines_of input ≡ lines_before lines others
      → ended_parts count input ≡ parts ++ filter is_whole_part (parts_from count next inner (read_lines others.ended))
  ended_first input others is =
      ap (λ (ls : List (List ℕ)). filter is_whole_part (parts_from count 1 None ls)) (ended_by input lines others is)
      ∙ ap (filter is_whole_part) (are.first (read_lines others.ended)) ∙ filter_front is_whole_part parts (parts_from count next inner (read_lines others.ended)) are.whole

  all_first : (input : List ℕ) (others : Lines) → lines_of input ≡ lines_before lines others
      → parts_from count 1 None (all_lines input) ≡ parts ++ parts_from count next inner (read_lines others.ended ++ last_line others.rest)
  all_first input others is = ap (parts_from count 1 None) (all_by input lines others is) ∙ are.first (read_lines others.ended ++ last_line others.rest)

  module _ (bytes : List ℕ) (within : length bytes ≤ LIMIT) (begun : BeginsBytes [] bytes lines) where
    either_first : (t : Bool) (more : List ℕ)
        → (rest : List Part) × ((if t then ended_parts count (take LIMIT (bytes ++ more)) else parts_from count 1 None (all_lines (bytes ++ more))) ≡ parts ++ rest)
    either_first true more =
        let here = begun (take (LIMIT - length bytes) more) in
        (_, ended_first (take LIMIT (bytes ++ more)) here.0 (ap lines_of (take_limit bytes more LIMIT within) ∙ here.1))
    either_first false more =
        let here = begun more in
        (_, all_first (bytes ++ more) here.0 here.1)

    -- where the parts end the input, they are all
    pub quit_parts : ended ≡ true → (more : List ℕ) → input_parts count (bytes ++ more) ≡ parts
    quit_parts quit more =
        let here = either_first (is_long (bytes ++ more)) more in
        ap up_to_end here.1 ∙ are.up_to here.0 ∙ ap (λ (t : Bool). parts ++ (if t then [] else up_to_end here.0)) quit ∙ append-nil parts

    pub quit_never : ended ≡ true → (more : List ℕ) → passes_limit count (bytes ++ more) ≡ false
    quit_never quit more =
        not_over ends_input (is_long (bytes ++ more)) (input_parts count (bytes ++ more))
        (ap (list_any ends_input) (quit_parts quit more) ∙ are.ends ∙ quit)

    -- and their end was taken
    pub quit_taken : ended ≡ true → list_any ends_input (ended_parts count bytes) ≡ true
    quit_taken quit =
        let here = begun [] in
        let rest = filter is_whole_part (parts_from count next inner (read_lines here.0.ended)) in
        ap (list_any ends_input) (ended_first bytes here.0 (ap lines_of (sym (append-nil bytes)) ∙ here.1))
        ∙ any_both ends_input parts rest ∙ ap (λ (t : Bool). t || list_any ends_input rest) (are.ends ∙ quit)

  -- where all bytes were taken, and the front of a line is left
  module _ (bytes line : List ℕ) (taken : TakesBytes [] bytes lines line) (unended : is_unended line ≡ true) where
    whole_lines : lines_of bytes ≡ lines_before lines (record { ended = []; rest = line })
    whole_lines =
        ap lines_of (sym (append-nil bytes)) ∙ taken []
        ∙ ap (λ (l : List ℕ). lines_before lines (lines_of l)) (append-nil line) ∙ ap (lines_before lines) (not_ended line unended)

    -- the parts whose last line was taken
    ended_are : ended_parts count bytes ≡ parts
    ended_are =
        ended_first bytes (record { ended = []; rest = line }) whole_lines ∙ ap (λ (l : List Part). parts ++ l) (none_open next inner) ∙ append-nil parts

    -- an input that ends here
    pub end_parts : length bytes ≤ LIMIT → ended ≡ false → input_parts count bytes ≡ parts ++ up_to_end (parts_from count next inner (last_line line))
    end_parts within goes =
        ap (λ (t : Bool). up_to_end (if t then ended_parts count (take LIMIT bytes) else parts_from count 1 None (all_lines bytes))) (not_long bytes within)
        ∙ ap up_to_end (all_first bytes (record { ended = []; rest = line }) whole_lines) ∙ are.up_to (parts_from count next inner (last_line line))
        ∙ ap (λ (t : Bool). parts ++ (if t then [] else up_to_end (parts_from count next inner (last_line line)))) goes

    -- one that goes on past its limit
    module _ (more : List ℕ) (full : length bytes ≡ LIMIT) (past : LIMIT < length (bytes ++ more)) (goes : ended ≡ false) where
      pub past_parts : input_parts count (bytes ++ more) ≡ parts
      past_parts =
          let none : LIMIT - length bytes ≡ 0 = omega (arith, full) in
          let within : length bytes ≤ LIMIT = omega (arith, full) in
          let cut : take LIMIT (bytes ++ more) ≡ bytes = take_limit bytes more LIMIT within ∙ ap (λ (n : ℕ). bytes ++ take n more) none ∙ append-nil bytes in
          ap (λ (t : Bool). up_to_end (if t then ended_parts count (take LIMIT (bytes ++ more)) else parts_from count 1 None (all_lines (bytes ++ more)))) (is_past (bytes ++ more) past)
          ∙ ap (λ (l : List ℕ). up_to_end (ended_parts count l)) cut ∙ ap up_to_end (ended_are ∙ sym (append-nil parts)) ∙ are.up_to []
          ∙ ap (λ (t : Bool). parts ++ (if t then [] else [])) goes ∙ append-nil parts

      pub past_is : passes_limit count (bytes ++ more) ≡ true
      past_is =
          ap (λ (t : Bool). t && not (list_any ends_input (input_parts count (bytes ++ more)))) (is_past (bytes ++ more) past)
          ∙ ap (λ (l : List Part). not (list_any ends_input l)) past_parts ∙ ap not (are.ends ∙ goes)

pub end_never : (count : ℕ) (bytes : List ℕ) → length bytes ≤ LIMIT → passes_limit count bytes ≡ false
end_never count bytes within = ap (λ (t : Bool). t && not (list_any ends_input (input_parts count bytes))) (not_long bytes within)
