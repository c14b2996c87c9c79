-- The edges are what the tree bits read of one another, and a bit depends on itself where a chain of edges leads back to it.
use Rattle.std.proofs.Common.{◌≡◌, ◌⊎◌, ℕ, zero, suc, ◌+◌, ◌<◌, ◌≤◌, Bool, true, false, cond, ◌&&◌, ◌||◌, List, [], ◌∷◌, ◌++◌, length, flat_map, Option, Some, None, nat_eq, inl, inr, ⊎_elim, refl, sym, ◌∙◌, ap, subst, arith}
use Rattle.std.proofs.lemmas.Bool.{eq-eqb, eqb-true, false≢true}
use Rattle.std.specs.Option.{option_or, option_to_list}
use Rattle.rtl_sig.specs.declared.sig.SigBit.{SigBit}
use Rattle.rtl_sig.specs.declared.sig.SigBit.TheVariants as sig
use Rattle.rtl_sig.specs.declared.sig.WireBit.{WireBit}
use Rattle.rtl_ir.specs.declared.module.Link.{Link}
use Rattle.rtl_ir.specs.declared.value.Attribute.{Attribute}
use Rattle.rtl_ir.specs.Assigns.{assigned, cases_assigns, last_source, left_bits, switches_assigns}
use Rattle.rtl_ir.specs.Faults.Recursion.{leads_within}
use Rattle.rtl_ir.specs.Faults.SelfReading.{assigns_read, bits_read, cases_name, cases_read, reads_itself, reads_within, switches_read}
use Rattle.rtl_ir.specs.Follow.{all_joins, joins}
use Rattle.rtl_ir.specs.declared.follow.Join.{Join}
use Rattle.rtl_ir.specs.Signals.{has_bit, same_bit, wire_bits}
use Rattle.rtl_ir.specs.Tree.{Switches, NoSwitch, OneSwitch, Cases, NoCase, OneCase, CaseView}
use Rattle.process_check.specs.declared.readings.Edge.{Edge}
use Rattle.process_trees.specs.Numbers.{number_from, number_in}
use Rattle.process_check.specs.Readings.{AreBetween, HasEdge, HasEdges, assign_edges, bit_edges, case_edges, cases_edges, edges_from, edges_to, numbers_in, switches_edges}
use Rattle.process_check.specs.Search.{In, followers}
use Rattle.process_check.proofs.Among.{Among, In-split, among-left, among-right, among-split, among_has, any_found, both, either, flat_map-append, found_any, found_number, has_among, number_found, or_left, or_right, same_bit-refl, same_bit-true}
use Rattle.process_check.proofs.Searches.{In-left, In-right}

-- edges of lists that are joined
edge-left : (i j : ℕ) (xs ys : List Edge) → HasEdge i j xs → HasEdge i j (xs ++ ys)
edge-left i j [] ys h = absurd h
edge-left i j (x ∷ xs) ys (inl e) = inl e
edge-left i j (x ∷ xs) ys (inr h) = inr (edge-left i j xs ys h)

edge-right : (i j : ℕ) (xs ys : List Edge) → HasEdge i j ys → HasEdge i j (xs ++ ys)
edge-right i j [] ys h = h
edge-right i j (x ∷ xs) ys h = inr (edge-right i j xs ys h)

edge-split : (i j : ℕ) (xs ys : List Edge) → HasEdge i j (xs ++ ys) → HasEdge i j xs ⊎ HasEdge i j ys
edge-split i j [] ys h = inr h
edge-split i j (x ∷ xs) ys (inl e) = inl (inl e)
edge-split i j (x ∷ xs) ys (inr h) = ⊎_elim (λ l. inl (inr l)) (λ r. inr r) (edge-split i j xs ys h)

edge_of : (f : WireBit → List Edge) (i j : ℕ) (bs : List WireBit) → HasEdge i j (flat_map f bs) → (b : WireBit) × Among b bs × HasEdge i j (f b)
edge_of f i j [] h = absurd h
edge_of f i j (c ∷ bs) h = ⊎_elim
    (λ l. (c, inl refl, l))
    (λ r. let found = edge_of f i j bs r in (found.0, inr found.1, found.2))
    (edge-split i j (f c) (flat_map f bs) h)

edge_there : (f : WireBit → List Edge) (i j : ℕ) (bs : List WireBit) (b : WireBit) → Among b bs → HasEdge i j (f b) → HasEdge i j (flat_map f bs)
edge_there f i j [] b h e = absurd h
edge_there f i j (c ∷ bs) b (inl same) e = edge-left i j (f c) (flat_map f bs) (subst (λ x. HasEdge i j (f x)) same e)
edge_there f i j (c ∷ bs) b (inr h) e = edge-right i j (f c) (flat_map f bs) (edge_there f i j bs b h e)

edge_to : (n i j : ℕ) (ms : List ℕ) → HasEdge i j (edges_to n ms) → (n ≡ i) × In j ms
edge_to n i j [] h = absurd h
edge_to n i j (m ∷ ms) (inl e) = (e.0, inl (sym e.1))
edge_to n i j (m ∷ ms) (inr h) = let r = edge_to n i j ms h in (r.0, inr r.1)

to_edge : (i j : ℕ) (ms : List ℕ) → In j ms → HasEdge i j (edges_to i ms)
to_edge i j [] h = absurd h
to_edge i j (m ∷ ms) (inl e) = inl (refl, sym e)
to_edge i j (m ∷ ms) (inr h) = inr (to_edge i j ms h)

-- what is assigned is named
joined_named : (ls rs : List SigBit) (b : WireBit) (s : SigBit) → last_source (joins ls rs) b ≡ Some s → Among b (wire_bits ls)
joined_named [] rs b s e = absurd (cc)
joined_named (l ∷ ls) [] b s e = absurd (cc)
joined_named (sig.Fixed c ∷ ls) (r ∷ rs) b s e = joined_named ls rs b s e
joined_named (sig.Wire c ∷ ls) (r ∷ rs) b s e = by (last_source (joins ls rs) b) refl (joined_named ls rs b)
  where
    here : (t : Bool) → same_bit c b ≡ t → cond t (Some r) None ≡ Some s → Among b (c ∷ wire_bits ls)
    here true h f = inl (sym (same_bit-true c b h))
    here false h f = absurd (let g : None ≡ Some s = f in cc)

    by : (o : Option SigBit) → last_source (joins ls rs) b ≡ o → ((t : SigBit) → last_source (joins ls rs) b ≡ Some t → Among b (wire_bits ls)) → Among b (c ∷ wire_bits ls)
    by (Some t) h rest = inr (rest t h)
    by None h rest = here (same_bit c b) refl (sym (ap (λ o. option_or o (cond (same_bit c b) (Some r) None)) h) ∙ e)

pub last_source-append : (xs ys : List Join) (b : WireBit) → last_source (xs ++ ys) b ≡ option_or (last_source ys b) (last_source xs b)
last_source-append [] ys b = by (last_source ys b)
  where
    by : (o : Option SigBit) → o ≡ option_or o None
    by None = refl
    by (Some s) = refl
last_source-append (x ∷ xs) ys b =
    ap (λ o. option_or o (cond (same_bit x.bit b) (Some x.source) None)) (last_source-append xs ys b)
    ∙ by (last_source ys b) (last_source xs b) (cond (same_bit x.bit b) (Some x.source) None)
  where
    by : (o p q : Option SigBit) → option_or (option_or o p) q ≡ option_or o (option_or p q)
    by None p q = refl
    by (Some s) p q = refl

pub assigned-cons : (l : Link) (ls : List Link) (b : WireBit) → assigned (l ∷ ls) b ≡ option_or (assigned ls b) (last_source (joins l.left l.right) b)
assigned-cons l ls b = last_source-append (joins l.left l.right) (all_joins ls) b

assigned_named : (assigns : List Link) (b : WireBit) (s : SigBit) → assigned assigns b ≡ Some s → Among b (left_bits assigns)
assigned_named [] b s e = absurd (cc)
assigned_named (l ∷ ls) b s e = by (assigned ls b) refl (assigned_named ls b)
  where
    by : (o : Option SigBit) → assigned ls b ≡ o → ((t : SigBit) → assigned ls b ≡ Some t → Among b (left_bits ls)) → Among b (wire_bits l.left ++ left_bits ls)
    by (Some t) h rest = among-right b (wire_bits l.left) (left_bits ls) (rest t h)
    by None h rest =
        among-left b (wire_bits l.left) (left_bits ls)
        (joined_named l.left l.right b s (sym (ap (λ o. option_or o (last_source (joins l.left l.right) b)) h) ∙ sym (assigned-cons l ls b) ∙ e))

left_bits-append : (xs ys : List Link) → left_bits (xs ++ ys) ≡ left_bits xs ++ left_bits ys
left_bits-append xs ys = flat_map-append (λ (l : Link). wire_bits l.left) xs ys

named-left : (b : WireBit) (xs ys : List Link) → Among b (left_bits xs) → Among b (left_bits (xs ++ ys))
named-left b xs ys h = subst (Among b) (sym (left_bits-append xs ys)) (among-left b (left_bits xs) (left_bits ys) h)

named-right : (b : WireBit) (xs ys : List Link) → Among b (left_bits ys) → Among b (left_bits (xs ++ ys))
named-right b xs ys h = subst (Among b) (sym (left_bits-append xs ys)) (among-right b (left_bits xs) (left_bits ys) h)

named-split : (b : WireBit) (xs ys : List Link) → Among b (left_bits (xs ++ ys)) → Among b (left_bits xs) ⊎ Among b (left_bits ys)
named-split b xs ys h = among-split b (left_bits xs) (left_bits ys) (subst (Among b) (left_bits-append xs ys) h)

module _ (bits : List WireBit) where
  numbers-append : (xs ys : List SigBit) → numbers_in bits (xs ++ ys) ≡ numbers_in bits xs ++ numbers_in bits ys
  numbers-append [] ys = refl
  numbers-append (s ∷ xs) ys = by s (numbers-append xs ys)
    where
      by : (s : SigBit) → numbers_in bits (xs ++ ys) ≡ numbers_in bits xs ++ numbers_in bits ys → numbers_in bits (s ∷ xs ++ ys) ≡ numbers_in bits (s ∷ xs) ++ numbers_in bits ys
      by (sig.Fixed c) e = e
      by (sig.Wire b) e = on (number_in bits b)
        where
          on : (o : Option ℕ) → option_to_list o ++ numbers_in bits (xs ++ ys) ≡ (option_to_list o ++ numbers_in bits xs) ++ numbers_in bits ys
          on None = e
          on (Some n) = ap (λ ns. n ∷ ns) e

  read-left : (j : ℕ) (xs ys : List SigBit) → In j (numbers_in bits xs) → In j (numbers_in bits (xs ++ ys))
  read-left j xs ys h = subst (In j) (sym (numbers-append xs ys)) (In-left j (numbers_in bits xs) (numbers_in bits ys) h)

  read-right : (j : ℕ) (xs ys : List SigBit) → In j (numbers_in bits ys) → In j (numbers_in bits (xs ++ ys))
  read-right j xs ys h = subst (In j) (sym (numbers-append xs ys)) (In-right j (numbers_in bits xs) (numbers_in bits ys) h)

  read-split : (j : ℕ) (xs ys : List SigBit) → In j (numbers_in bits (xs ++ ys)) → In j (numbers_in bits xs) ⊎ In j (numbers_in bits ys)
  read-split j xs ys h = In-split j (numbers_in bits xs) (numbers_in bits ys) (subst (In j) (numbers-append xs ys) h)

  -- a bit of this number is named by some lines, and reads a number: one of the signals around, or one of what it reads there
  abbrev Reads : List Link → (WireBit → List SigBit) → List ℕ → ℕ → ℕ → Type 0
  Reads lines read signals i j = (b : WireBit) × (number_in bits b ≡ Some i) × Among b (left_bits lines) × (In j signals ⊎ In j (numbers_in bits (read b)))

  sound_assigns : (signals : List ℕ) (assigns : List Link) (i j : ℕ) → HasEdge i j (assign_edges bits signals assigns) → Reads assigns (λ b. assigns_read b assigns) signals i j
  sound_assigns signals assigns i j h =
      let found = edge_of (bit_edges bits signals assigns) i j (left_bits assigns) h in
      by found.0 found.1 (number_in bits found.0) refl found.2
    where
      by : (b : WireBit) → Among b (left_bits assigns) → (o : Option ℕ) → number_in bits b ≡ o → HasEdge i j (edges_from o (numbers_in bits (assigns_read b assigns) ++ signals)) → Reads assigns (λ c. assigns_read c assigns) signals i j
      by b named None e here = absurd here
      by b named (Some n) e here =
          let leads = edge_to n i j (numbers_in bits (assigns_read b assigns) ++ signals) here in
          (b, e ∙ ap Some leads.0, named, ⊎_elim (λ l. inr l) (λ r. inl r) (In-split j (numbers_in bits (assigns_read b assigns)) signals leads.1))

  complete_assigns : (signals : List ℕ) (assigns : List Link) (b : WireBit) (i j : ℕ) → number_in bits b ≡ Some i → Among b (left_bits assigns) → In j signals ⊎ In j (numbers_in bits (assigns_read b assigns))
      → HasEdge i j (assign_edges bits signals assigns)
  complete_assigns signals assigns b i j number named reads =
      let there : In j (numbers_in bits (assigns_read b assigns) ++ signals) = ⊎_elim (λ l. In-right j (numbers_in bits (assigns_read b assigns)) signals l) (λ r. In-left j (numbers_in bits (assigns_read b assigns)) signals r) reads in
      edge_there (bit_edges bits signals assigns) i j (left_bits assigns) b named
      (subst (λ o. HasEdge i j (edges_from o (numbers_in bits (assigns_read b assigns) ++ signals))) (sym number) (to_edge i j (numbers_in bits (assigns_read b assigns) ++ signals) there))

  -- what is assigned is read by a bit that is named
  read_named : (assigns : List Link) (b : WireBit) (j : ℕ) → In j (numbers_in bits (assigns_read b assigns)) → Among b (left_bits assigns)
  read_named assigns b j h = by (assigned assigns b) refl h
    where
      by : (o : Option SigBit) → assigned assigns b ≡ o → In j (numbers_in bits (option_to_list o)) → Among b (left_bits assigns)
      by None e here = absurd here
      by (Some s) e here = assigned_named assigns b s e

  -- the signal of a switch is read by a bit that its cases name
  gated : (signal : List SigBit) (cases : Cases) (rest : List SigBit) (b : WireBit) (j : ℕ) → Among b (left_bits (cases_assigns cases)) → In j (numbers_in bits (signal ++ cases_read b cases))
      → In j (numbers_in bits (cond (cases_name b cases) (signal ++ cases_read b cases) [] ++ rest))
  gated signal cases rest b j named h =
      subst (λ t. In j (numbers_in bits (cond t (signal ++ cases_read b cases) [] ++ rest))) (sym (among_has (left_bits (cases_assigns cases)) b named))
      (read-left j (signal ++ cases_read b cases) rest h)

  mutual
    sound_switches : (signals : List ℕ) (ss : Switches) (i j : ℕ) → HasEdge i j (switches_edges bits signals ss) → Reads (switches_assigns ss) (λ b. switches_read b ss) signals i j
    sound_switches signals NoSwitch i j h = absurd h
    sound_switches signals (OneSwitch signal attributes cases rest) i j h = ⊎_elim
        (λ l.
        let r = sound_cases (signals ++ numbers_in bits signal) cases i j l in (
          r.0,
          r.1,
          named-left r.0 (cases_assigns cases) (switches_assigns rest) r.2,
          ⊎_elim
              (λ s. ⊎_elim
              (λ o. inl o)
              (λ n. inr (gated signal cases (switches_read r.0 rest) r.0 j r.2 (read-left j signal (cases_read r.0 cases) n)))
              (In-split j signals (numbers_in bits signal) s))
              (λ n. inr (gated signal cases (switches_read r.0 rest) r.0 j r.2 (read-right j signal (cases_read r.0 cases) n)))
              r.3,
        ))
        (λ l.
        let r = sound_switches signals rest i j l in (
          r.0,
          r.1,
          named-right r.0 (cases_assigns cases) (switches_assigns rest) r.2,
          ⊎_elim (λ s. inl s) (λ n. inr (read-right j (cond (cases_name r.0 cases) (signal ++ cases_read r.0 cases) []) (switches_read r.0 rest) n)) r.3,
        ))
        (edge-split i j (cases_edges bits (signals ++ numbers_in bits signal) cases) (switches_edges bits signals rest) h)

    sound_cases : (signals : List ℕ) (cs : Cases) (i j : ℕ) → HasEdge i j (cases_edges bits signals cs) → Reads (cases_assigns cs) (λ b. cases_read b cs) signals i j
    sound_cases signals NoCase i j h = absurd h
    sound_cases signals (OneCase patterns assigns attributes switches rest) i j h = ⊎_elim
        (λ own. ⊎_elim
        (λ l.
        let r = sound_assigns signals assigns i j l in (
          r.0,
          r.1,
          named-left r.0 (assigns ++ switches_assigns switches) (cases_assigns rest) (named-left r.0 assigns (switches_assigns switches) r.2),
          ⊎_elim (λ s. inl s)
              (λ n. inr (read-left j (assigns_read r.0 assigns ++ switches_read r.0 switches) (cases_read r.0 rest) (read-left j (assigns_read r.0 assigns) (switches_read r.0 switches) n)))
              r.3,
        ))
        (λ l.
        let r = sound_switches signals switches i j l in (
          r.0,
          r.1,
          named-left r.0 (assigns ++ switches_assigns switches) (cases_assigns rest) (named-right r.0 assigns (switches_assigns switches) r.2),
          ⊎_elim (λ s. inl s)
              (λ n. inr (read-left j (assigns_read r.0 assigns ++ switches_read r.0 switches) (cases_read r.0 rest) (read-right j (assigns_read r.0 assigns) (switches_read r.0 switches) n)))
              r.3,
        ))
        (edge-split i j (assign_edges bits signals assigns) (switches_edges bits signals switches) own))
        (λ l.
        let r = sound_cases signals rest i j l in (
          r.0,
          r.1,
          named-right r.0 (assigns ++ switches_assigns switches) (cases_assigns rest) r.2,
          ⊎_elim (λ s. inl s) (λ n. inr (read-right j (assigns_read r.0 assigns ++ switches_read r.0 switches) (cases_read r.0 rest) n)) r.3,
        ))
        (edge-split i j (assign_edges bits signals assigns ++ switches_edges bits signals switches) (cases_edges bits signals rest) h)

  -- a bit that lines name takes in the signals around, and one may read a number by itself
  abbrev Takes : List Link → List SigBit → List ℕ → WireBit → ℕ → Type 0
  Takes lines read signals b j = (Among b (left_bits lines) × In j signals) ⊎ In j (numbers_in bits read)

  -- .. by the cases of the first of some switches, or by the others
  switch_parts : (signals : List ℕ) (signal : List SigBit) (attributes : List Attribute) (cases : Cases) (rest : Switches) (b : WireBit) (j : ℕ)
      → Takes (switches_assigns (OneSwitch signal attributes cases rest)) (switches_read b (OneSwitch signal attributes cases rest)) signals b j
      → Takes (cases_assigns cases) (cases_read b cases) (signals ++ numbers_in bits signal) b j ⊎ Takes (switches_assigns rest) (switches_read b rest) signals b j
  switch_parts signals signal attributes cases rest b j h = ⊎_elim
      (λ l. ⊎_elim
      (λ own. inl (inl (own, In-left j signals (numbers_in bits signal) l.1)))
      (λ other. inr (inl (other, l.1)))
      (named-split b (cases_assigns cases) (switches_assigns rest) l.0))
      (λ r. ⊎_elim
      (λ own. inl (by (cases_name b cases) refl own))
      (λ other. inr (inr other))
      (read-split j (cond (cases_name b cases) (signal ++ cases_read b cases) []) (switches_read b rest) r))
      h
    where
      by : (t : Bool) → cases_name b cases ≡ t → In j (numbers_in bits (cond t (signal ++ cases_read b cases) [])) → Takes (cases_assigns cases) (cases_read b cases) (signals ++ numbers_in bits signal) b j
      by false e none = absurd none
      by true e some = ⊎_elim
          (λ s. inl (has_among (left_bits (cases_assigns cases)) b e, In-right j signals (numbers_in bits signal) s))
          (λ n. inr n)
          (read-split j signal (cases_read b cases) some)

  -- .. by the assigns of the first of some cases, by its switches, or by the others
  case_parts : (signals : List ℕ) (assigns : List Link) (switches : Switches) (rest : Cases) (b : WireBit) (j : ℕ)
      → Takes (assigns ++ switches_assigns switches ++ cases_assigns rest) (assigns_read b assigns ++ switches_read b switches ++ cases_read b rest) signals b j
      → ((Among b (left_bits assigns) × (In j signals ⊎ In j (numbers_in bits (assigns_read b assigns)))) ⊎ Takes (switches_assigns switches) (switches_read b switches) signals b j)
      ⊎ Takes (cases_assigns rest) (cases_read b rest) signals b j
  case_parts signals assigns switches rest b j h = ⊎_elim
      (λ l. ⊎_elim
      (λ own. inl (⊎_elim (λ named. inl (named, inl l.1)) (λ named. inr (inl (named, l.1))) (named-split b assigns (switches_assigns switches) own)))
      (λ other. inr (inl (other, l.1)))
      (named-split b (assigns ++ switches_assigns switches) (cases_assigns rest) l.0))
      (λ r. ⊎_elim
      (λ own. inl (⊎_elim (λ reads. inl (read_named assigns b j reads, inr reads)) (λ reads. inr (inr reads)) (read-split j (assigns_read b assigns) (switches_read b switches) own)))
      (λ other. inr (inr other))
      (read-split j (assigns_read b assigns ++ switches_read b switches) (cases_read b rest) r))
      h

  mutual
    complete_switches : (signals : List ℕ) (ss : Switches) (b : WireBit) (i j : ℕ) → number_in bits b ≡ Some i
        → Takes (switches_assigns ss) (switches_read b ss) signals b j → HasEdge i j (switches_edges bits signals ss)
    complete_switches signals NoSwitch b i j number h = ⊎_elim (λ l. absurd l.0) (λ r. absurd r) h
    complete_switches signals (OneSwitch signal attributes cases rest) b i j number h = ⊎_elim
        (λ l. edge-left i j (cases_edges bits (signals ++ numbers_in bits signal) cases) (switches_edges bits signals rest) (complete_cases (signals ++ numbers_in bits signal) cases b i j number l))
        (λ r. edge-right i j (cases_edges bits (signals ++ numbers_in bits signal) cases) (switches_edges bits signals rest) (complete_switches signals rest b i j number r))
        (switch_parts signals signal attributes cases rest b j h)

    complete_cases : (signals : List ℕ) (cs : Cases) (b : WireBit) (i j : ℕ) → number_in bits b ≡ Some i
        → Takes (cases_assigns cs) (cases_read b cs) signals b j → HasEdge i j (cases_edges bits signals cs)
    complete_cases signals NoCase b i j number h = ⊎_elim (λ l. absurd l.0) (λ r. absurd r) h
    complete_cases signals (OneCase patterns assigns attributes switches rest) b i j number h = ⊎_elim
        (λ own. edge-left i j (assign_edges bits signals assigns ++ switches_edges bits signals switches) (cases_edges bits signals rest)
        (⊎_elim
        (λ l. edge-left i j (assign_edges bits signals assigns) (switches_edges bits signals switches) (complete_assigns signals assigns b i j number l.0 l.1))
        (λ r. edge-right i j (assign_edges bits signals assigns) (switches_edges bits signals switches) (complete_switches signals switches b i j number r))
        own))
        (λ r. edge-right i j (assign_edges bits signals assigns ++ switches_edges bits signals switches) (cases_edges bits signals rest) (complete_cases signals rest b i j number r))
        (case_parts signals assigns switches rest b j h)

  -- what a bit reads below a root
  abbrev read_at : CaseView → WireBit → List SigBit
  read_at root b = assigns_read b root.assigns ++ switches_read b root.switches

  sound_root : (root : CaseView) (i j : ℕ) → HasEdge i j (case_edges bits [] root) → (b : WireBit) × (number_in bits b ≡ Some i) × In j (numbers_in bits (read_at root b))
  sound_root root i j h = ⊎_elim
      (λ l.
      let r = sound_assigns [] root.assigns i j l in
      (r.0, r.1, ⊎_elim (λ none. absurd none) (λ n. read-left j (assigns_read r.0 root.assigns) (switches_read r.0 root.switches) n) r.3))
      (λ l.
      let r = sound_switches [] root.switches i j l in
      (r.0, r.1, ⊎_elim (λ none. absurd none) (λ n. read-right j (assigns_read r.0 root.assigns) (switches_read r.0 root.switches) n) r.3))
      (edge-split i j (assign_edges bits [] root.assigns) (switches_edges bits [] root.switches) h)

  complete_root : (root : CaseView) (b : WireBit) (i j : ℕ) → number_in bits b ≡ Some i → In j (numbers_in bits (read_at root b)) → HasEdge i j (case_edges bits [] root)
  complete_root root b i j number h = ⊎_elim
      (λ l. edge-left i j (assign_edges bits [] root.assigns) (switches_edges bits [] root.switches) (complete_assigns [] root.assigns b i j number (read_named root.assigns b j l) (inr l)))
      (λ r. edge-right i j (assign_edges bits [] root.assigns) (switches_edges bits [] root.switches) (complete_switches [] root.switches b i j number (inr r)))
      (read-split j (assigns_read b root.assigns) (switches_read b root.switches) h)

  -- the numbers of a signal are those of its bits
  number_of_bit : (signal : List SigBit) (j : ℕ) → In j (numbers_in bits signal) → (r : WireBit) × Among r (wire_bits signal) × (number_in bits r ≡ Some j)
  number_of_bit [] j h = absurd h
  number_of_bit (sig.Fixed c ∷ signal) j h = number_of_bit signal j h
  number_of_bit (sig.Wire b ∷ signal) j h = by (number_in bits b) refl (λ i. number_of_bit signal j i) h
    where
      by : (o : Option ℕ) → number_in bits b ≡ o → (In j (numbers_in bits signal) → (r : WireBit) × Among r (wire_bits signal) × (number_in bits r ≡ Some j)) → In j (option_to_list o ++ numbers_in bits signal)
          → (r : WireBit) × Among r (b ∷ wire_bits signal) × (number_in bits r ≡ Some j)
      by None e rest i = let r = rest i in (r.0, inr r.1, r.2)
      by (Some n) e rest i = ⊎_elim
          (λ same. (b, inl refl, e ∙ ap Some (sym same)))
          (λ other. let r = rest other in (r.0, inr r.1, r.2))
          i

  bit_of_number : (signal : List SigBit) (r : WireBit) (j : ℕ) → Among r (wire_bits signal) → number_in bits r ≡ Some j → In j (numbers_in bits signal)
  bit_of_number [] r j h e = absurd h
  bit_of_number (sig.Fixed c ∷ signal) r j h e = bit_of_number signal r j h e
  bit_of_number (sig.Wire b ∷ signal) r j (inl same) e =
      subst (λ o. In j (option_to_list o ++ numbers_in bits signal)) (sym (ap (number_in bits) (sym same) ∙ e)) (inl refl)
  bit_of_number (sig.Wire b ∷ signal) r j (inr h) e = In-right j (option_to_list (number_in bits b)) (numbers_in bits signal) (bit_of_number signal r j h e)

-- numbers of bits
number_low : (at : ℕ) (bits : List WireBit) (b : WireBit) (i : ℕ) → number_from at bits b ≡ Some i → (at ≤ i) × (i < at + length bits)
number_low at [] b i e = absurd (cc)
number_low at (c ∷ bits) b i e = by (same_bit c b) refl (number_low (at + 1) bits b i)
  where
    by : (t : Bool) → same_bit c b ≡ t → (number_from (at + 1) bits b ≡ Some i → (at + 1 ≤ i) × (i < at + 1 + length bits)) → (at ≤ i) × (i < at + suc (length bits))
    by true h rest =
        let f : Some at ≡ Some i = sym (ap (λ t. cond t (Some at) (number_from (at + 1) bits b)) h) ∙ e in
        let same : at ≡ i = cc in
        (omega arith, omega arith)
    by false h rest =
        let r = rest (sym (ap (λ t. cond t (Some at) (number_from (at + 1) bits b)) h) ∙ e) in
        let low = r.0 in
        let high = r.1 in
        (omega arith, omega arith)

number_inj : (at : ℕ) (bits : List WireBit) (b c : WireBit) (i : ℕ) → number_from at bits b ≡ Some i → number_from at bits c ≡ Some i → b ≡ c
number_inj at [] b c i e f = absurd (cc)
number_inj at (d ∷ bits) b c i e f = by (same_bit d b) (same_bit d c) refl refl (number_inj (at + 1) bits b c i)
  where
    rest : (x : WireBit) → same_bit d x ≡ false → number_from at (d ∷ bits) x ≡ Some i → number_from (at + 1) bits x ≡ Some i
    rest x h g = sym (ap (λ t. cond t (Some at) (number_from (at + 1) bits x)) h) ∙ g

    first : (x : WireBit) → same_bit d x ≡ true → number_from at (d ∷ bits) x ≡ Some i → at ≡ i
    first x h g = let s : Some at ≡ Some i = sym (ap (λ t. cond t (Some at) (number_from (at + 1) bits x)) h) ∙ g in cc

    apart : (x : WireBit) → at ≡ i → number_from (at + 1) bits x ≡ Some i → ⊥
    apart x same g = let low = (number_low (at + 1) bits x i g).0 in absurd (omega arith)

    by : (s t : Bool) → same_bit d b ≡ s → same_bit d c ≡ t → (number_from (at + 1) bits b ≡ Some i → number_from (at + 1) bits c ≡ Some i → b ≡ c) → b ≡ c
    by true true g h later = sym (same_bit-true d b g) ∙ same_bit-true d c h
    by true false g h later = absurd (apart c (first b g e) (rest c h f))
    by false true g h later = absurd (apart b (first c h f) (rest b g e))
    by false false g h later = later (rest b g e) (rest c h f)

number_there : (at : ℕ) (bits : List WireBit) (b : WireBit) → Among b bits → (i : ℕ) × (number_from at bits b ≡ Some i)
number_there at [] b h = absurd h
number_there at (c ∷ bits) b h = by (same_bit c b) refl (number_there (at + 1) bits b) h
  where
    by : (t : Bool) → same_bit c b ≡ t → (Among b bits → (i : ℕ) × (number_from (at + 1) bits b ≡ Some i)) → Among b (c ∷ bits) → (i : ℕ) × (cond (same_bit c b) (Some at) (number_from (at + 1) bits b) ≡ Some i)
    by true e rest i = (at, ap (λ t. cond t (Some at) (number_from (at + 1) bits b)) e)
    by false e rest (inl same) = absurd (false≢true (sym e ∙ ap (λ x. same_bit c x) same ∙ same_bit-refl c))
    by false e rest (inr i) = let r = rest i in (r.0, ap (λ t. cond t (Some at) (number_from (at + 1) bits b)) e ∙ r.1)

numbered : (at : ℕ) (bits : List WireBit) (b : WireBit) (i : ℕ) → number_from at bits b ≡ Some i → Among b bits
numbered at [] b i e = absurd (cc)
numbered at (c ∷ bits) b i e = by (same_bit c b) refl (numbered (at + 1) bits b i)
  where
    by : (t : Bool) → same_bit c b ≡ t → (number_from (at + 1) bits b ≡ Some i → Among b bits) → Among b (c ∷ bits)
    by true h rest = inl (sym (same_bit-true c b h))
    by false h rest = inr (rest (sym (ap (λ t. cond t (Some at) (number_from (at + 1) bits b)) h) ∙ e))

number_within : (bits : List WireBit) (b : WireBit) (i : ℕ) → number_in bits b ≡ Some i → i < length bits
number_within bits b i e = let high = (number_low 0 bits b i e).1 in omega arith

-- each edge leads from the number of a bit to that of a bit
pub edges_between : (root : CaseView) (bits : List WireBit) (edges : List Edge) → edges ≡ case_edges bits [] root → AreBetween (length bits) edges
edges_between root bits edges same i j h =
    let r = sound_root bits root i j (subst (HasEdge i j) same h) in
    let s = number_of_bit bits (read_at bits root r.0) j r.2 in
    (number_within bits r.0 i r.1, number_within bits s.0 j s.2)

-- chains of edges are chains of bits that read one another
module _ (root : CaseView) (bits : List WireBit) (rows : List (List ℕ)) (has : HasEdges rows (case_edges bits [] root)) where
  leads : (n : ℕ) (b c : WireBit) (i k : ℕ) → number_in bits b ≡ Some i → number_in bits c ≡ Some k → reads_within root bits n b c ≡ true → leads_within rows n i k ≡ true
  leads zero b c i k e f h = absurd (false≢true h)
  leads (suc n) b c i k e f h =
      let found = any_found (λ r. has_bit bits r && (same_bit r c || reads_within root bits n r c)) (bits_read root b) h in
      let r = found.0 in
      let tests = both (has_bit bits r) (same_bit r c || reads_within root bits n r c) found.2 in
      let number = number_there 0 bits r (has_among bits r tests.0) in
      let j = number.0 in
      let edge : HasEdge i j (case_edges bits [] root) = complete_root bits root b i j e (bit_of_number bits (read_at bits root b) r j found.1 number.1) in
      found_number (λ x. nat_eq x k || leads_within rows n x k) (followers rows i) j (has.complete i j edge)
      (⊎_elim
      (λ same.
      let g : number_in bits c ≡ Some j = ap (number_in bits) (sym (same_bit-true r c same)) ∙ number.1 in
      let there : j ≡ k = some (sym g ∙ f) in
      or_left (nat_eq j k) (leads_within rows n j k) (eq-eqb j k there))
      (λ on. or_right (nat_eq j k) (leads_within rows n j k) (leads n r c j k number.1 f on))
      (either (same_bit r c) (reads_within root bits n r c) tests.1))
    where
      some : {x y : ℕ} → Some x ≡ Some y → x ≡ y
      some e = cc

  reads : (n i k : ℕ) (c : WireBit) → number_in bits c ≡ Some k → leads_within rows n i k ≡ true → (b : WireBit) × (number_in bits b ≡ Some i) × (reads_within root bits n b c ≡ true)
  reads zero i k c f h = absurd (false≢true h)
  reads (suc n) i k c f h =
      let found = number_found (λ x. nat_eq x k || leads_within rows n x k) (followers rows i) h in
      let j = found.0 in
      let reader = sound_root bits root i j (has.sound i j found.1) in
      let b = reader.0 in
      let bit = number_of_bit bits (read_at bits root b) j reader.2 in
      let r = bit.0 in
      let there : has_bit bits r ≡ true = among_has bits r (numbered 0 bits r j bit.2) in
      let goes : (same_bit r c || reads_within root bits n r c) ≡ true = ⊎_elim
      (λ same.
      let here : r ≡ c = number_inj 0 bits r c k (bit.2 ∙ ap Some (eqb-true j k same)) f in
      or_left (same_bit r c) (reads_within root bits n r c) (ap (same_bit r) (sym here) ∙ same_bit-refl r))
      (λ on.
      let s = reads n j k c f on in
      let here : s.0 ≡ r = number_inj 0 bits s.0 r j s.1 bit.2 in
      or_right (same_bit r c) (reads_within root bits n r c) (ap (λ x. reads_within root bits n x c) (sym here) ∙ s.2))
      (either (nat_eq j k) (leads_within rows n j k) found.2) in
      (b, reader.1, found_any (λ x. has_bit bits x && (same_bit x c || reads_within root bits n x c)) (bits_read root b) r bit.1 (ap (λ t. t && (same_bit r c || reads_within root bits n r c)) there ∙ goes))

  -- no chain leads back, and so no bit depends on itself
  pub none_reads : ((k : ℕ) → k < length bits → leads_within rows (length bits) k k ≡ false) → false ≡ reads_itself root bits
  none_reads none = by (reads_itself root bits) refl
    where
      by : (t : Bool) → reads_itself root bits ≡ t → false ≡ t
      by false e = refl
      by true e =
          let found = any_found (λ b. reads_within root bits (length bits) b b) bits e in
          let number = number_there 0 bits found.0 found.1 in
          absurd (false≢true (sym (none number.0 (number_within bits found.0 number.0 number.1)) ∙ leads (length bits) found.0 found.0 number.0 number.0 number.1 number.1 found.2))

  -- a chain leads back, and so a bit depends on itself
  some_follow : (n k : ℕ) → leads_within rows n k k ≡ true → (b : WireBit) × (number_in bits b ≡ Some k)
  some_follow zero k h = absurd (false≢true h)
  some_follow (suc n) k h =
      let found = number_found (λ x. nat_eq x k || leads_within rows n x k) (followers rows k) h in
      let reader = sound_root bits root k found.0 (has.sound k found.0 found.1) in
      (reader.0, reader.1)

  pub one_reads : (k : ℕ) → leads_within rows (length bits) k k ≡ true → true ≡ reads_itself root bits
  one_reads k h =
      let first = some_follow (length bits) k h in
      let r = reads (length bits) k k first.0 first.1 h in
      let same : r.0 ≡ first.0 = number_inj 0 bits r.0 first.0 k r.1 first.1 in
      sym (found_any (λ b. reads_within root bits (length bits) b b) bits first.0 (numbered 0 bits first.0 k first.1) (ap (λ x. reads_within root bits (length bits) x first.0) (sym same) ∙ r.2))
