-- Trees with decided tests pass no limit, have no uneven patterns, and read no more.
use Rattle.std.proofs.Common.{◌≡◌, ℕ, zero, suc, Bool, true, false, ◌&&◌, ◌||◌, List, [], ◌++◌, length, Option, Some, None, ⊎_elim, refl, sym, subst}
use Rattle.std.specs.Prelude.{◌==◌, if◌then◌else◌, not}
use Rattle.std.specs.List.{list_any}
use Rattle.std.proofs.lemmas.Bool.{and_parts, or_parts}
use Rattle.rtl_sig.specs.declared.sig.SigBit.{SigBit}
use Rattle.rtl_sig.specs.declared.sig.WireBit.{WireBit}
use Rattle.rtl_ir.specs.Assigns.{cases_assigns, left_bits}
use Rattle.rtl_ir.specs.Faults.ProcessLimits.{cases_pass, cases_uneven, passes_limit, switches_pass, switches_uneven}
use Rattle.rtl_ir.specs.Faults.SelfReading.{assigns_read, bits_read, cases_name, cases_read, reads_itself, reads_within, switches_read}
use Rattle.rtl_ir.specs.Faults.TwoEdges.{SwitchTest, cases_patterns, tested_bit}
use Rattle.rtl_ir.specs.Signals.{has_bit, same_bit}
use Rattle.rtl_ir.specs.Tree.{CaseView, Cases, NoCase, NoSwitch, OneCase, OneSwitch, Switches}
use Rattle.rtl_ir.specs.declared.module.Link.{Link}
use Rattle.net_model.proofs.Members.{In-cases, In-left, In-right}
use Rattle.net_model.specs.Lists.{Distinct, In}
use Rattle.net_model.specs.Proc.Reset.{cases_at, is_taken, switches_at}
use Rattle.reset_laws.proofs.FrameStep.{has_in}
use Rattle.reset_laws.proofs.FreedBits.{in_has}
use Rattle.reset_laws.proofs.FreedTrees.{cases_fewer, in_left, left_in}
use Rattle.reset_laws.proofs.ReadLeaves.{any_in, few, none_itself, reads_step}

either : (a b : Bool) → a ≡ false → b ≡ false → (a || b) ≡ false
either a b e f = λ i. e i || f i

either_three : (a b c : Bool) → a ≡ false → b ≡ false → c ≡ false → (a || b || c) ≡ false
either_three a b c e f g = λ i. (e i || f i) || g i

inner : (xs ys zs : List SigBit) (s : SigBit) → (In s ys → In s zs) → In s (xs ++ ys) → In s (xs ++ zs)
inner xs ys zs s h i = ⊎_elim (λ l. In-left s xs zs l) (λ l. In-right s xs zs (h l)) (In-cases s xs ys i)

module _ (test : SwitchTest) (level : Bool) where
  mutual
    pub narrow_at : (switches : Switches) → switches_pass switches ≡ false → switches_pass (switches_at test level switches) ≡ false
    narrow_at NoSwitch e = refl
    narrow_at (OneSwitch signal attributes cases rest) e =
        let outer = or_parts (passes_limit signal || cases_pass cases) (switches_pass rest) e in
        let inner = or_parts (passes_limit signal) (cases_pass cases) outer.0 in
        either_three (passes_limit signal) (cases_pass (cases_at test level (test signal (cases_patterns cases)) cases)) (switches_pass (switches_at test level rest)) inner.0 (narrow_cases (test signal (cases_patterns cases)) cases inner.1) (narrow_at rest outer.1)

    narrow_cases : (o : Option Bool) (cases : Cases) → cases_pass cases ≡ false → cases_pass (cases_at test level o cases) ≡ false
    narrow_cases o NoCase e = refl
    narrow_cases None (OneCase patterns assigns attributes switches rest) e =
        let outer = or_parts (passes_limit patterns || switches_pass switches) (cases_pass rest) e in
        let inner = or_parts (passes_limit patterns) (switches_pass switches) outer.0 in
        either_three (passes_limit patterns) (switches_pass (switches_at test level switches)) (cases_pass (cases_at test level None rest)) inner.0 (narrow_at switches inner.1) (narrow_cases None rest outer.1)
    narrow_cases (Some inverse) (OneCase patterns assigns attributes switches rest) e =
        let outer = or_parts (passes_limit patterns || switches_pass switches) (cases_pass rest) e in
        let inner = or_parts (passes_limit patterns) (switches_pass switches) outer.0 in
        by (is_taken (tested_bit level inverse) patterns) (narrow_at switches inner.1) (narrow_cases (Some inverse) rest outer.1)
      where
        by : (t : Bool) → switches_pass (switches_at test level switches) ≡ false → cases_pass (cases_at test level (Some inverse) rest) ≡ false → cases_pass (if t then OneCase [] assigns attributes (switches_at test level switches) NoCase else cases_at test level (Some inverse) rest) ≡ false
        by true f g = λ i. (false || f i) || false
        by false f g = g

  mutual
    pub even_at : (switches : Switches) → switches_uneven switches ≡ false → switches_uneven (switches_at test level switches) ≡ false
    even_at NoSwitch e = refl
    even_at (OneSwitch signal attributes cases rest) e =
        let parts = or_parts (cases_uneven (length signal) cases) (switches_uneven rest) e in
        either (cases_uneven (length signal) (cases_at test level (test signal (cases_patterns cases)) cases)) (switches_uneven (switches_at test level rest)) (even_cases (length signal) (test signal (cases_patterns cases)) cases parts.0) (even_at rest parts.1)

    even_cases : (n : ℕ) (o : Option Bool) (cases : Cases) → cases_uneven n cases ≡ false → cases_uneven n (cases_at test level o cases) ≡ false
    even_cases n o NoCase e = refl
    even_cases n None (OneCase patterns assigns attributes switches rest) e =
        let wide : Bool = list_any (λ (q : List SigBit). not (length q == n)) patterns in
        let outer = or_parts (wide || switches_uneven switches) (cases_uneven n rest) e in
        let inner = or_parts wide (switches_uneven switches) outer.0 in
        either_three wide (switches_uneven (switches_at test level switches)) (cases_uneven n (cases_at test level None rest)) inner.0 (even_at switches inner.1) (even_cases n None rest outer.1)
    even_cases n (Some inverse) (OneCase patterns assigns attributes switches rest) e =
        let wide : Bool = list_any (λ (q : List SigBit). not (length q == n)) patterns in
        let outer = or_parts (wide || switches_uneven switches) (cases_uneven n rest) e in
        let inner = or_parts wide (switches_uneven switches) outer.0 in
        by (is_taken (tested_bit level inverse) patterns) (even_at switches inner.1) (even_cases n (Some inverse) rest outer.1)
      where
        by : (t : Bool) → switches_uneven (switches_at test level switches) ≡ false → cases_uneven n (cases_at test level (Some inverse) rest) ≡ false → cases_uneven n (if t then OneCase [] assigns attributes (switches_at test level switches) NoCase else cases_at test level (Some inverse) rest) ≡ false
        by true f g = λ i. (false || f i) || false
        by false f g = g

  -- what is read for a bit was read
  named_before : (b : WireBit) (o : Option Bool) (cases : Cases) → cases_name b (cases_at test level o cases) ≡ true → cases_name b cases ≡ true
  named_before b o cases e =
      in_has (left_bits (cases_assigns cases)) b (lines (cases_assigns (cases_at test level o cases)) (cases_assigns cases) (cases_fewer test level o cases) (has_in (left_bits (cases_assigns (cases_at test level o cases))) b e))
    where
      lines : (xs ys : List Link) → ((l : Link) → In l xs → In l ys) → In b (left_bits xs) → In b (left_bits ys)
      lines xs ys h i = let z = left_in xs b i in in_left ys z.0 b (h z.0 z.1) z.2

  mutual
    pub reads_before : (b : WireBit) (switches : Switches) (s : SigBit) → In s (switches_read b (switches_at test level switches)) → In s (switches_read b switches)
    reads_before b NoSwitch s i = absurd i
    reads_before b (OneSwitch signal attributes cases rest) s i =
        let o : Option Bool = test signal (cases_patterns cases) in
        ⊎_elim
        (λ l. In-left s (if cases_name b cases then signal ++ cases_read b cases else []) (switches_read b rest) (by o (cases_name b (cases_at test level o cases)) refl l (cases_reads_before b o cases s)))
        (λ l. In-right s (if cases_name b cases then signal ++ cases_read b cases else []) (switches_read b rest) (reads_before b rest s l))
        (In-cases s (if cases_name b (cases_at test level o cases) then signal ++ cases_read b (cases_at test level o cases) else []) (switches_read b (switches_at test level rest)) i)
      where
        by : (o : Option Bool) (t : Bool) → cases_name b (cases_at test level o cases) ≡ t → In s (if t then signal ++ cases_read b (cases_at test level o cases) else []) → (In s (cases_read b (cases_at test level o cases)) → In s (cases_read b cases)) → In s (if cases_name b cases then signal ++ cases_read b cases else [])
        by o false e j later = absurd j
        by o true e j later =
            subst (λ t. In s (if t then signal ++ cases_read b cases else [])) (sym (named_before b o cases e))
            (⊎_elim (λ l. In-left s signal (cases_read b cases) l) (λ l. In-right s signal (cases_read b cases) (later l)) (In-cases s signal (cases_read b (cases_at test level o cases)) j))

    cases_reads_before : (b : WireBit) (o : Option Bool) (cases : Cases) (s : SigBit) → In s (cases_read b (cases_at test level o cases)) → In s (cases_read b cases)
    cases_reads_before b o NoCase s i = absurd i
    cases_reads_before b None (OneCase patterns assigns attributes switches rest) s i =
        ⊎_elim
        (λ l. In-left s (assigns_read b assigns ++ switches_read b switches) (cases_read b rest) (inner (assigns_read b assigns) (switches_read b (switches_at test level switches)) (switches_read b switches) s (reads_before b switches s) l))
        (λ l. In-right s (assigns_read b assigns ++ switches_read b switches) (cases_read b rest) (cases_reads_before b None rest s l))
        (In-cases s (assigns_read b assigns ++ switches_read b (switches_at test level switches)) (cases_read b (cases_at test level None rest)) i)
    cases_reads_before b (Some inverse) (OneCase patterns assigns attributes switches rest) s i =
        by (is_taken (tested_bit level inverse) patterns) i (reads_before b switches s) (cases_reads_before b (Some inverse) rest s)
      where
        by : (t : Bool) → In s (cases_read b (if t then OneCase [] assigns attributes (switches_at test level switches) NoCase else cases_at test level (Some inverse) rest)) → (In s (switches_read b (switches_at test level switches)) → In s (switches_read b switches)) → (In s (cases_read b (cases_at test level (Some inverse) rest)) → In s (cases_read b rest)) → In s (cases_read b (OneCase patterns assigns attributes switches rest))
        by true j h later =
            In-left s (assigns_read b assigns ++ switches_read b switches) (cases_read b rest)
            (⊎_elim (λ l. inner (assigns_read b assigns) (switches_read b (switches_at test level switches)) (switches_read b switches) s h l) (λ l. absurd l) (In-cases s (assigns_read b assigns ++ switches_read b (switches_at test level switches)) [] j))
        by false j h later = In-right s (assigns_read b assigns ++ switches_read b switches) (cases_read b rest) (later j)

-- so where no tree bit depended on itself, none does
module _ (root root' : CaseView) (bits bits' : List WireBit) (reads : (b c : WireBit) → In c (bits_read root' b) → In c (bits_read root b)) (inside : (b : WireBit) → In b bits' → In b bits) (once : Distinct bits') where
  reads_were : (n : ℕ) (b c : WireBit) → reads_within root' bits' n b c ≡ true → reads_within root bits n b c ≡ true
  reads_were zero b c e = absurd (cc)
  reads_were (suc n) b c e =
      let z = any_in (λ x. has_bit bits' x && (same_bit x c || reads_within root' bits' n x c)) (bits_read root' b) e in
      let parts = and_parts (has_bit bits' z.0) (same_bit z.0 c || reads_within root' bits' n z.0 c) z.2 in
      reads_step root bits n b z.0 c (reads b z.0 z.1) (in_has bits z.0 (inside z.0 (has_in bits' z.0 parts.0))) (by z.0 (same_bit z.0 c) parts.1 (reads_were n z.0 c))
    where
      by : (x : WireBit) (t : Bool) → (t || reads_within root' bits' n x c) ≡ true → (reads_within root' bits' n x c ≡ true → reads_within root bits n x c ≡ true) → (t || reads_within root bits n x c) ≡ true
      by x true f later = refl
      by x false f later = later f

  pub still_acyclic : reads_itself root bits ≡ false → reads_itself root' bits' ≡ false
  still_acyclic e = by (reads_itself root' bits') refl
    where
      by : (t : Bool) → reads_itself root' bits' ≡ t → t ≡ false
      by false f = refl
      by true f =
          let z = any_in (λ b. reads_within root' bits' (length bits') b b) bits' f in
          absurd (none_itself root bits e (length bits') z.0 (in_has bits z.0 (inside z.0 z.1)) (few bits' bits once inside) (reads_were (length bits') z.0 z.0 z.2))
