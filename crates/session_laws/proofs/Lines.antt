-- One line: the command that it completes, the block that is open after it, and what it says of desks.
use Rattle.std.proofs.Common.{◌≡◌, ℕ, List, [], ◌∷◌, ◌++◌, Bool, true, false, Option, Some, None, refl, sym, ap, ◌∙◌, true≢false, append_assoc, append-nil, arith}
use Rattle.std.specs.Prelude.{◌&&◌, ◌||◌, not, codes, option_to_list, if◌then◌else◌}
use Rattle.std.specs.Option.{is_some, option_map}
use Rattle.std.specs.Str.{bytes_eq}
use Rattle.std.proofs.lemmas.Slice.Eq.{bytes_eq-Decides}
use Rattle.desk_read.specs.declared.command.Command.TheVariants.{Bad}
use Rattle.desk_read.specs.Commands.{Block, block_command, block_of, commands_by, commands_closing, commands_of, is_end, with_line}
use Rattle.desk_read.specs.Heads.{head_by}
use Rattle.desk_read.specs.Taking.{OpenBlock, Takes, answer_by, answer_to, block_after, commands_from, opened_by}
use Rattle.desk_read.specs.Words.{words_of}
use Rattle.synth_run.specs.Desks.{aim_by, aim_in, aim_of, at, desk_by, none}
use Rattle.session_laws.specs.Own.{ends, is_inside, is_last, said_of_desks}

-- by cases of a test
tell : {P : Type 0} (t : Bool) → (t ≡ true → P) → (t ≡ false → P) → P
tell true f g = f refl
tell false f g = g refl

-- ---- the commands from a line on

-- outside a block they are the command of a line with these words and those behind it; and no block is open behind a last command
abbrev Says : List (List ℕ) → List ℕ → Type 0
Says words line =
    ((lines : List (List ℕ)) →
    commands_by (head_by words line) (commands_of lines) (block_of lines) ≡ option_to_list (answer_by (head_by words line)) ++ commands_from (opened_by (head_by words line)) lines)
    × ((not (is_last (answer_by (head_by words line))) || not (is_some (opened_by (head_by words line)))) ≡ true)

alone_says : (word line : List ℕ) → bytes_eq word (codes "script") ≡ false → Says (word ∷ []) line
alone_says word line a =
    tell (bytes_eq word (codes "load")) (λ b. (λ lines. rw (a, b) refl, rw (a, b) refl)) (λ b.
    tell (bytes_eq word (codes "edit")) (λ c. (λ lines. rw (a, b, c) refl, rw (a, b, c) refl)) (λ c.
    tell (bytes_eq word (codes "run")) (λ d. (λ lines. rw (a, b, c, d) refl, rw (a, b, c, d) refl)) (λ d.
    tell (bytes_eq word (codes "print")) (λ e. (λ lines. rw (a, b, c, d, e) refl, rw (a, b, c, d, e) refl)) (λ e.
    tell (bytes_eq word (codes "version")) (λ f. (λ lines. rw (a, b, c, d, e, f) refl, rw (a, b, c, d, e, f) refl)) (λ f.
    tell (bytes_eq word (codes "modules")) (λ g. (λ lines. rw (a, b, c, d, e, f, g) refl, rw (a, b, c, d, e, f, g) refl)) (λ g.
    tell (bytes_eq word (codes "quit")) (λ h. (λ lines. rw (a, b, c, d, e, f, g, h) refl, rw (a, b, c, d, e, f, g, h) refl))
    (λ h. (λ lines. rw (a, b, c, d, e, f, g, h) refl, rw (a, b, c, d, e, f, g, h) refl))))))))

named_says : (word name line : List ℕ) → bytes_eq word (codes "script") ≡ false → Says (word ∷ name ∷ []) line
named_says word name line a =
    tell (bytes_eq word (codes "drop")) (λ b. (λ lines. rw (a, b) refl, rw (a, b) refl)) (λ b.
    tell (bytes_eq word (codes "show")) (λ c. (λ lines. rw (a, b, c) refl, rw (a, b, c) refl)) (λ c.
    tell (bytes_eq word (codes "ports")) (λ d. (λ lines. rw (a, b, c, d) refl, rw (a, b, c, d) refl))
    (λ d. (λ lines. rw (a, b, c, d) refl, rw (a, b, c, d) refl))))

sim_says : (word which name line : List ℕ) → bytes_eq word (codes "script") ≡ false → Says (word ∷ which ∷ name ∷ []) line
sim_says word which name line a =
    tell (bytes_eq word (codes "sim"))
    (λ b. tell (bytes_eq which (codes "source")) (λ c. (λ lines. rw (a, b, c) refl, rw (a, b, c) refl)) (λ c.
    tell (bytes_eq which (codes "netlist")) (λ d. (λ lines. rw (a, b, c, d) refl, rw (a, b, c, d) refl))
    (λ d. (λ lines. rw (a, b, c, d) refl, rw (a, b, c, d) refl))))
    (λ b. (λ lines. rw (a, b) refl, rw (a, b) refl))

timed_says : (word which name order line : List ℕ) → bytes_eq word (codes "script") ≡ false → Says (word ∷ which ∷ name ∷ order ∷ []) line
timed_says word which name order line a =
    tell (bytes_eq word (codes "sim"))
    (λ b. tell (bytes_eq order (codes "released"))
    (λ o. tell (bytes_eq which (codes "source")) (λ c. (λ lines. rw (a, b, o, c) refl, rw (a, b, o, c) refl)) (λ c.
    tell (bytes_eq which (codes "netlist")) (λ d. (λ lines. rw (a, b, o, c, d) refl, rw (a, b, o, c, d) refl))
    (λ d. (λ lines. rw (a, b, o, c, d) refl, rw (a, b, o, c, d) refl))))
    (λ o. (λ lines. rw (a, b, o) refl, rw (a, b, o) refl)))
    (λ b. (λ lines. rw (a, b) refl, rw (a, b) refl))

others_say : (word : List ℕ) (words : List (List ℕ)) (line : List ℕ) → bytes_eq word (codes "script") ≡ false → Says (word ∷ words) line
others_say word [] line a = alone_says word line a
others_say word (name ∷ []) line a = named_says word name line a
others_say word (which ∷ name ∷ []) line a = sim_says word which name line a
others_say word (which ∷ name ∷ order ∷ []) line a = timed_says word which name order line a
others_say word (which ∷ name ∷ order ∷ more ∷ words) line a = (λ lines. rw a refl, rw a refl)

says : (words : List (List ℕ)) (line : List ℕ) → Says words line
says [] line = (λ lines. refl, refl)
says (word ∷ words) line = tell (bytes_eq word (codes "script")) (λ a. (λ lines. rw a refl, rw a refl)) (others_say word words line)

longer : (block : OpenBlock) (line : List ℕ) (rest : Option Block)
    → commands_closing block.opening block.text (option_map (with_line line) rest) ≡ commands_closing block.opening (block.text ++ line ++ 10 ∷ []) rest
longer block line None = refl
longer block line (Some rest) =
    ap (λ (l : List ℕ). block_command block.opening l ∷ rest.behind)
    (sym (append_assoc (block.text ++ line) (10 ∷ []) rest.text ∙ append_assoc block.text line (10 ∷ rest.text)))

by_end : (t : Bool) (block : OpenBlock) (line : List ℕ) (lines : List (List ℕ))
    → commands_closing block.opening block.text (if t then Some (record { text = []; behind = commands_of lines }) else option_map (with_line line) (block_of lines))
    ≡ option_to_list (if t then Some (block_command block.opening block.text) else None)
    ++ commands_from (if t then None else Some (record block { text = block.text ++ line ++ 10 ∷ [] })) lines
by_end true block line lines = ap (λ (l : List ℕ). block_command block.opening l ∷ commands_of lines) (append-nil block.text)
by_end false block line lines = longer block line (block_of lines)

-- they are the command that it completes, and those of the lines behind it
pub takes : (block : Option OpenBlock) (line : List ℕ) → Takes block line (answer_to block line) (block_after block line)
takes None line = λ lines. (says (words_of line) line).0 lines
takes (Some block) line = λ lines. by_end (is_end line) block line lines

-- ---- a line of several desks

pub said_is : (count : ℕ) (block : Option OpenBlock) (line : List ℕ) (before : List (List ℕ)) → is_inside before ≡ is_some block
    → said_of_desks count (record { text = line; before = before }) ≡ aim_in count block line
said_is count None line before e = ap (λ (t : Bool). if t then none else aim_of count line) e
said_is count (Some block) line before e = ap (λ (t : Bool). if t then none else aim_of count line) e

-- a line behind these is inside a block, by whether they leave one open
abbrev inside_by : List ℕ → Bool → Bool
inside_by line t = if t then not (is_end line) else is_some (block_after None line)

stays_open : (t : Bool) (block : OpenBlock) → not t ≡ is_some (if t then None else Some block)
stays_open true block = refl
stays_open false block = refl

-- a block is open after a line
pub inside_after : (block : Option OpenBlock) (line : List ℕ) (before : List (List ℕ)) → is_inside before ≡ is_some block → is_inside (line ∷ before) ≡ is_some (block_after block line)
inside_after None line before e = ap (inside_by line) e
inside_after (Some block) line before e = ap (inside_by line) e ∙ stays_open (is_end line) (record block { text = block.text ++ line ++ 10 ∷ [] })

end_stays : (t : Bool) (block : OpenBlock) → is_last (if t then Some (block_command block.opening block.text) else None) ≡ false
end_stays true block = grind arith
end_stays false block = refl

-- a line ends the input where its command is `quit`
pub ends_is : (block : Option OpenBlock) (line : List ℕ) (before : List (List ℕ)) → is_inside before ≡ is_some block
    → ends (record { text = line; before = before }) ≡ is_last (answer_to block line)
ends_is None line before e = ap (λ (t : Bool). not t && is_last (answer_to None line)) e
ends_is (Some block) line before e = ap (λ (t : Bool). not t && is_last (answer_to None line)) e ∙ sym (end_stays (is_end line) block)

none_open : (last : Bool) (block : Option OpenBlock) → (not last || not (is_some block)) ≡ true → last ≡ true → block ≡ None
none_open last None h e = refl
none_open true (Some block) h e = absurd (true≢false (sym h))
none_open false (Some block) h e = absurd (true≢false (sym e))

-- and no block is open after it
pub none_after : (block : Option OpenBlock) (line : List ℕ) → is_last (answer_to block line) ≡ true → block_after block line ≡ None
none_after None line e = none_open (is_last (answer_to None line)) (block_after None line) (says (words_of line) line).1 e
none_after (Some block) line e = absurd (true≢false (sym e ∙ end_stays (is_end line) block))

-- ---- a line that speaks of desks

-- words that begin so are no command, and open no block
desk_is_bad : (words : List (List ℕ)) (line : List ℕ) → (answer_by (head_by (codes "desk" ∷ words) line) ≡ Some Bad) × (opened_by (head_by (codes "desk" ∷ words) line) ≡ None)
desk_is_bad [] line = (refl, refl)
desk_is_bad (a ∷ []) line = (refl, refl)
desk_is_bad (a ∷ b ∷ []) line = (refl, refl)
desk_is_bad (a ∷ b ∷ c ∷ []) line = (refl, refl)
desk_is_bad (a ∷ b ∷ c ∷ d ∷ words) line = (refl, refl)

by_words : (count : ℕ) (words : List (List ℕ)) (line : List ℕ) (other : Option ℕ) → aim_by count words ≡ at other
    → (answer_by (head_by words line) ≡ Some Bad) × (opened_by (head_by words line) ≡ None)
by_words count [] line other e = absurd cc
by_words count (word ∷ words) line other e = by (bytes_eq word (codes "desk")) refl e
  where
    by : (t : Bool) → bytes_eq word (codes "desk") ≡ t → (if t then at (desk_by count words) else none) ≡ at other
        → (answer_by (head_by (word ∷ words) line) ≡ Some Bad) × (opened_by (head_by (word ∷ words) line) ≡ None)
    by true same e =
        let is : word ≡ codes "desk" = (bytes_eq-Decides word (codes "desk")).0 same in
        let bad = desk_is_bad words line in
        (ap (λ (w : List ℕ). answer_by (head_by (w ∷ words) line)) is ∙ bad.0, ap (λ (w : List ℕ). opened_by (head_by (w ∷ words) line)) is ∙ bad.1)
    by false same e = absurd cc

-- by itself it is no command
told_bad : (count : ℕ) (line : List ℕ) (other : Option ℕ) → aim_of count line ≡ at other → (answer_to None line ≡ Some Bad) × (block_after None line ≡ None)
told_bad count line other e = by_words count (words_of line) line other e

pub told_outside : (count : ℕ) (line : List ℕ) (before : List (List ℕ)) (other : Option ℕ) → is_inside before ≡ false → aim_of count line ≡ at other → is_inside (line ∷ before) ≡ false
told_outside count line before other e told = ap (inside_by line) e ∙ ap is_some (told_bad count line other told).1

pub told_stays : (count : ℕ) (line : List ℕ) (before : List (List ℕ)) (other : Option ℕ) → is_inside before ≡ false → aim_of count line ≡ at other
    → ends (record { text = line; before = before }) ≡ false
told_stays count line before other e told = ap (λ (t : Bool). not t && is_last (answer_to None line)) e ∙ ap is_last (told_bad count line other told).0
