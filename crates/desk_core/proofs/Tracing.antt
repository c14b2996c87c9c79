-- A trace of a module's source is below that of the module in the netlist.
use Rattle.std.proofs.Common.{◌≡◌, ℕ, zero, suc, List, [], ◌∷◌, ◌++◌, Bool, true, false, cond, inl, inr, Option, Some, None, Result, Ok, Err, map, reverse, take, drop, refl, sym, ap, subst, ◌∙◌, true≢false}
use Rattle.std.specs.Prelude.{codes, filter}
use Rattle.std.specs.List.{flat_map, join_with_byte}
use Rattle.std.specs.Option.{option_map_or}
use Rattle.std.specs.Str.{bytes_eq}
use Rattle.std.proofs.lemmas.List.{map-append, reverse-append}
use Rattle.rtl_bits.specs.declared.bit.Bit.{Bit}
use Rattle.rtl_bits.specs.declared.bit.Bit.TheVariants.{S0, S1, X, Z, M, Dash}
use Rattle.rtl_bits.specs.Knowledge.{AreBelow, Below}
use Rattle.rtl_ir.specs.declared.module.Design.{Design}
use Rattle.rtl_ir.specs.declared.module.Module.{Module}
use Rattle.rtl_ir.specs.declared.ports.PortLine.{PortLine}
use Rattle.rtl_ir.specs.declared.wire.Role.TheVariants.{Output}
use Rattle.rtl_ir.specs.Faults.{check_faults}
use Rattle.rtl_ir.specs.Types.{module_named}
use Rattle.rtl_readable.specs.Readable.{IsReadable}
use Rattle.net_model.specs.Refine.{ModuleBelow, ModulesBelow, Refines, run_of}
use Rattle.net_model.specs.Run.{TraceBelow}
use Rattle.script_core.specs.Cold.{cold, outcome_of}
use Rattle.script_core.specs.Words.{IsScript}
use Rattle.script_core.proofs.Refining.{cold_refines}
use Rattle.script_core.proofs.Stepping.{starts}
use Rattle.sim_text.specs.Digits.{digit_of}
use Rattle.sim_text.specs.Lines.{port_words, step_line, word_of}
use Rattle.sim_text.specs.Ports.{port_widths, same_role}
use Rattle.net_model.specs.declared.order.Order.{Order}
use Rattle.sim_trace.specs.Stimulus.{stimulus_of, trace_text}
use Rattle.desk_core.specs.Answers.{by_stimulus, netlist_reply, netlist_run_answer, refusal, source_reply, unchanged}
use Rattle.desk_core.specs.Netlist.{netlist_answer, netlist_of, over_words, unless_over}
use Rattle.desk_core.specs.State.{State}
use Rattle.desk_core.specs.Traces.{HasTraces, IsTraceBelow, SaysNoMore}
use Rattle.desk_core.proofs.Outcomes.{none_over}

-- texts that are below others, one after another
below_append : (a b c d : List ℕ) → IsTraceBelow a b → IsTraceBelow c d → IsTraceBelow (a ++ c) (b ++ d)
below_append [] [] c d h k = k
below_append [] (y ∷ b) c d h k = absurd h
below_append (x ∷ a) [] c d h k = absurd h
below_append (x ∷ a) (y ∷ b) c d h k = (h.0, below_append a b c d h.1 k)

below_same : (a : List ℕ) → IsTraceBelow a a
below_same [] = tt
below_same (x ∷ a) = (inr (inr refl), below_same a)

below_is : (a b c d : List ℕ) → a ≡ b → c ≡ d → IsTraceBelow b d → IsTraceBelow a c
below_is a b c d e f h = subst (λ (l : List ℕ). IsTraceBelow l c) (sym e) (subst (IsTraceBelow b) (sym f) h)

digit_below : (a b : Bit) → Below a b → SaysNoMore (digit_of a) (digit_of b)
digit_below S0 b h = inr (inr (sym (ap digit_of h)))
digit_below S1 b h = inr (inr (sym (ap digit_of h)))
digit_below X b h = inl refl
digit_below Z b h = inr (inl refl)
digit_below M b h = inl refl
digit_below Dash b h = inl refl

word_more : (x : Bit) (xs : List Bit) → word_of (x ∷ xs) ≡ word_of xs ++ digit_of x ∷ []
word_more x xs = ap (map digit_of) (reverse-append (x ∷ []) xs) ∙ map-append digit_of (reverse xs) (x ∷ [])

word_below : (a b : List Bit) → AreBelow a b → IsTraceBelow (word_of a) (word_of b)
word_below [] [] h = tt
word_below [] (y ∷ b) h = absurd h
word_below (x ∷ a) [] h = absurd h
word_below (x ∷ a) (y ∷ b) h =
    below_is (word_of (x ∷ a)) (word_of a ++ digit_of x ∷ []) (word_of (y ∷ b)) (word_of b ++ digit_of y ∷ []) (word_more x a) (word_more y b)
    (below_append (word_of a) (word_of b) (digit_of x ∷ []) (digit_of y ∷ []) (word_below a b h.1) (digit_below x y h.0, tt))

take_below : (n : ℕ) (a b : List Bit) → AreBelow a b → AreBelow (take n a) (take n b)
take_below zero [] [] h = tt
take_below zero [] (y ∷ b) h = absurd h
take_below zero (x ∷ a) [] h = absurd h
take_below zero (x ∷ a) (y ∷ b) h = tt
take_below (suc n) [] [] h = tt
take_below (suc n) [] (y ∷ b) h = absurd h
take_below (suc n) (x ∷ a) [] h = absurd h
take_below (suc n) (x ∷ a) (y ∷ b) h = (h.0, take_below n a b h.1)

drop_below : (n : ℕ) (a b : List Bit) → AreBelow a b → AreBelow (drop n a) (drop n b)
drop_below zero a b h = h
drop_below (suc n) [] [] h = tt
drop_below (suc n) [] (y ∷ b) h = absurd h
drop_below (suc n) (x ∷ a) [] h = absurd h
drop_below (suc n) (x ∷ a) (y ∷ b) h = drop_below n a b h.1

-- words with a blank between two
abbrev AreWordsBelow : List (List ℕ) → List (List ℕ) → Type 0
AreWordsBelow [] [] = Unit {0}
AreWordsBelow [] (b ∷ bs) = ⊥
AreWordsBelow (a ∷ as') [] = ⊥
AreWordsBelow (a ∷ as') (b ∷ bs) = IsTraceBelow a b × AreWordsBelow as' bs

joined_below : (a b : List (List ℕ)) → AreWordsBelow a b → IsTraceBelow (join_with_byte 32 a) (join_with_byte 32 b)
joined_below [] [] h = tt
joined_below [] (y ∷ b) h = absurd h
joined_below (x ∷ a) [] h = absurd h
joined_below (x ∷ []) (y ∷ []) h = h.0
joined_below (x ∷ []) (y ∷ z ∷ b) h = absurd h.1
joined_below (x ∷ z ∷ a) (y ∷ []) h = absurd h.1
joined_below (x ∷ w ∷ a) (y ∷ z ∷ b) h =
    below_append x y (32 ∷ join_with_byte 32 (w ∷ a)) (32 ∷ join_with_byte 32 (z ∷ b)) h.0 (inr (inr refl), joined_below (w ∷ a) (z ∷ b) h.1)

words_below : (widths : List ℕ) (a b : List Bit) → AreBelow a b → AreWordsBelow (port_words widths a) (port_words widths b)
words_below [] a b h = tt
words_below (w ∷ widths) a b h = (word_below (take w a) (take w b) (take_below w a b h), words_below widths (drop w a) (drop w b) (drop_below w a b h))

line_below : (widths : List ℕ) (a b : List Bit) → AreBelow a b → IsTraceBelow (step_line widths a) (step_line widths b)
line_below [] a b h = below_same (codes "-")
line_below (w ∷ widths) a b h = joined_below (port_words (w ∷ widths) a) (port_words (w ∷ widths) b) (words_below (w ∷ widths) a b h)

-- the lines of output vectors
abbrev lines : List ℕ → List (List Bit) → List ℕ
lines widths steps = flat_map (λ (bits : List Bit). step_line widths bits ++ codes "\n") steps

lines_below : (widths : List ℕ) (a b : List (List Bit)) → TraceBelow a b → IsTraceBelow (lines widths a) (lines widths b)
lines_below widths [] [] h = tt
lines_below widths [] (y ∷ b) h = absurd h
lines_below widths (x ∷ a) [] h = absurd h
lines_below widths (x ∷ a) (y ∷ b) h =
    below_append (step_line widths x ++ codes "\n") (step_line widths y ++ codes "\n") (lines widths a) (lines widths b)
    (below_append (step_line widths x) (step_line widths y) (codes "\n") (codes "\n") (line_below widths x y h.0) (below_same (codes "\n")))
    (lines_below widths a b h.1)

-- the traces of a module and of one that it is below
traces_below : (order : Order) (d e : Design) (m n : Module) (stimulus : List (List Bit)) → ModuleBelow d e m n → IsTraceBelow (trace_text order d m stimulus) (trace_text order e n stimulus)
traces_below order d e m n stimulus h =
    let widths : port_widths Output m ≡ port_widths Output n =
    ap (λ (ports : List PortLine). map (λ (p : PortLine). p.width) (filter (λ (p : PortLine). same_role Output p.role) ports)) h.1 in
    subst (λ (w : List ℕ). IsTraceBelow (trace_text order d m stimulus) (lines w (run_of order e n stimulus))) widths
    (lines_below (port_widths Output m) (run_of order d m stimulus) (run_of order e n stimulus) (h.2 order stimulus))

-- the modules of one name
named_below : (d e : Design) (ms ns : List Module) (name : List ℕ) (m n : Module) → ModulesBelow d e ms ns → module_named ms name ≡ Some m → module_named ns name ≡ Some n → ModuleBelow d e m n
named_below d e [] [] name m n h im iv = absurd cc
named_below d e [] (y ∷ ns) name m n h im iv = absurd h
named_below d e (x ∷ ms) [] name m n h im iv = absurd h
named_below d e (x ∷ ms) (y ∷ ns) name m n h im iv =
    by (bytes_eq x.id name) refl im iv (λ jm jn. named_below d e ms ns name m n h.1 jm jn)
  where
    by : (t : Bool) → bytes_eq x.id name ≡ t → cond t (Some x) (module_named ms name) ≡ Some m → cond (bytes_eq y.id name) (Some y) (module_named ns name) ≡ Some n
        → (module_named ms name ≡ Some m → module_named ns name ≡ Some n → ModuleBelow d e m n) → ModuleBelow d e m n
    by true is jm jn later =
        let same : bytes_eq y.id name ≡ true = ap (λ (i : List ℕ). bytes_eq i name) (sym h.0.0) ∙ is in
        let first : x ≡ m = cc in
        let second : Some y ≡ Some n = ap (λ (t : Bool). cond t (Some y) (module_named ns name)) (sym same) ∙ jn in
        let other : y ≡ n = cc in
        subst (λ (k : Module). ModuleBelow d e k n) first (subst (ModuleBelow d e x) other h.0)
    by false is jm jn later =
        let same : bytes_eq y.id name ≡ false = ap (λ (i : List ℕ). bytes_eq i name) (sym h.0.0) ∙ is in
        later jm (ap (λ (t : Bool). cond t (Some y) (module_named ns name)) (sym same) ∙ jn)

module _ (s : State) (readable : IsReadable s.design) (fine : check_faults s.design.modules ≡ []) (script : IsScript s.script) (order : Order) (name text : List ℕ) where
  refined : over_words s.design.modules (cold s.script s.design) ≡ None → Refines s.design (netlist_of s)
  refined none =
      cold_refines s.design readable fine s.script (starts s.script script) (netlist_of s)
      (none_over (outcome_of s.script s.design.modules) s.design.modules none)

  traces : (m n : Module) (stimulus : List (List Bit)) → module_named s.design.modules name ≡ Some m → stimulus_of m text ≡ Ok stimulus → module_named (netlist_of s).modules name ≡ Some n
      → over_words s.design.modules (cold s.script s.design) ≡ None → HasTraces s order name text
  traces m n stimulus there reads own none = record {
    source = m;
    target = n;
    stimulus = stimulus;
    source_is =
        ap (λ (o : Option Module). (option_map_or (λ (k : Module). by_stimulus s (stimulus_of k text) (λ steps. unchanged s (source_reply s order k steps))) o (refusal s (codes "18 " ++ name))).reply) there
        ∙ ap (λ (o : Result (List (List Bit)) ℕ). (by_stimulus s o (λ steps. unchanged s (source_reply s order m steps))).reply) reads;
    netlist_is =
        ap (λ (o : Option Module). (option_map_or (λ (k : Module). by_stimulus s (stimulus_of k text) (λ steps. netlist_answer s (netlist_reply s order name steps (module_named (netlist_of s).modules name)))) o (refusal s (codes "18 " ++ name))).reply) there
        ∙ ap (λ (o : Result (List (List Bit)) ℕ). (by_stimulus s o (λ steps. netlist_answer s (netlist_reply s order name steps (module_named (netlist_of s).modules name)))).reply) reads
        ∙ ap (unless_over s (netlist_reply s order name stimulus (module_named (netlist_of s).modules name))) none
        ∙ ap (netlist_reply s order name stimulus) own;
    below = traces_below order s.design (netlist_of s) m n stimulus (named_below s.design (netlist_of s) s.design.modules (netlist_of s).modules name m n (refined none) there own);
  }

  pub has_traces : (netlist_run_answer s order name text).reply.error ≡ false → HasTraces s order name text
  has_traces ok = by_named (module_named s.design.modules name) refl ok
    where
      by_target : (m : Module) (stimulus : List (List Bit)) → module_named s.design.modules name ≡ Some m → stimulus_of m text ≡ Ok stimulus → over_words s.design.modules (cold s.script s.design) ≡ None
          → (found : Option Module) → module_named (netlist_of s).modules name ≡ found → (netlist_reply s order name stimulus found).error ≡ false → HasTraces s order name text
      by_target m stimulus there reads none None own h = absurd (true≢false h)
      by_target m stimulus there reads none (Some n) own h = traces m n stimulus there reads own none

      by_over : (m : Module) (stimulus : List (List Bit)) → module_named s.design.modules name ≡ Some m → stimulus_of m text ≡ Ok stimulus → (over : Option (List ℕ)) → over_words s.design.modules (cold s.script s.design) ≡ over
          → (unless_over s (netlist_reply s order name stimulus (module_named (netlist_of s).modules name)) over).error ≡ false → HasTraces s order name text
      by_over m stimulus there reads None none h = by_target m stimulus there reads none (module_named (netlist_of s).modules name) refl h
      by_over m stimulus there reads (Some words) none h = absurd (true≢false h)

      by_read : (m : Module) → module_named s.design.modules name ≡ Some m → (steps : Result (List (List Bit)) ℕ) → stimulus_of m text ≡ steps
          → (by_stimulus s steps (λ stimulus. netlist_answer s (netlist_reply s order name stimulus (module_named (netlist_of s).modules name)))).reply.error ≡ false → HasTraces s order name text
      by_read m there (Err number) reads h = absurd (true≢false h)
      by_read m there (Ok stimulus) reads h = by_over m stimulus there reads (over_words s.design.modules (cold s.script s.design)) refl h

      by_named : (found : Option Module) → module_named s.design.modules name ≡ found
          → (option_map_or (λ (m : Module). by_stimulus s (stimulus_of m text) (λ stimulus. netlist_answer s (netlist_reply s order name stimulus (module_named (netlist_of s).modules name)))) found (refusal s (codes "18 " ++ name))).reply.error ≡ false
          → HasTraces s order name text
      by_named None there h = absurd (true≢false h)
      by_named (Some m) there h = by_read m there (stimulus_of m text) refl h
