-- A router over an input, from its start to its end.
use Rattle.std.proofs.Common.{◌≡◌, inl, inr, ℕ, ◌+◌, ◌≤◌, ◌<◌, List, [], ◌∷◌, ◌++◌, Bool, true, false, Option, None, length, refl, sym, ap, subst, ◌∙◌, append_assoc, append-nil, arith, length-append}
use Rattle.std.specs.Io.BufRead.{strip_last}
use Rattle.std.specs.Io.KnownBytes.{Consumes, IsAtEnd, Keeps}
use Rattle.std.proofs.KnownBytes.{Consumes-trans}
use Rattle.std.proofs.lemmas.List.{map-append}
use Rattle.synth_io.specs.declared.input.TheConstants.{LIMIT}
use Rattle.synth_io.specs.Taking.{TakesJust}
use Rattle.desk_read.specs.Taking.{OpenBlock}
use Rattle.synth_run.specs.Desks.{Part, input_parts, parts_from, passes_limit, up_to_end}
use Rattle.synth_run.specs.Lines.{is_unended, last_line, read_lines}
use Rattle.synth_run.specs.Routes.{EndsParts, Holds, IsRouted, PartsOf, TakesParts}
use Rattle.synth_run.specs.Taking.{BeginsBytes, TakesBytes}
use Rattle.synth_run.specs.declared.routes.Router.{Router}
use Rattle.synth_run.proofs.Holding.{at_end_none}
use Rattle.synth_run.proofs.Limits.{consumes_kept, consumes_none}
use Rattle.synth_run.proofs.LineLemmas.{LeavesBytes, begins_bytes, bytes_both, leaves_all, leaves_begins, leaves_last, leaves_next, unended_both}
use Rattle.synth_run.proofs.Parting.{end_never, end_parts, past_is, past_parts, quit_never, quit_parts, quit_taken}
use Rattle.synth_run.proofs.Routing.{took_both, took_none}

read_both : (ls ms : List (List ℕ)) → read_lines ls ++ read_lines ms ≡ read_lines (ls ++ ms)
read_both ls ms = sym (map-append (strip_last 13) ls ms)

took_lines : (a b c : Router) (ls ms : List (List ℕ)) (ended : Bool) (ps qs : List Part) → TakesParts a b (read_lines ls) false ps → TakesParts b c (read_lines ms) ended qs
    → TakesParts a c (read_lines (ls ++ ms)) ended (ps ++ qs)
took_lines a b c ls ms ended ps qs f g =
    subst (λ (l : List (List ℕ)). TakesParts a c l ended (ps ++ qs)) (read_both ls ms) (took_both a b c (read_lines ls) (read_lines ms) ended ps qs f g)

-- ---- bytes

-- a router took the front of bytes, of which this is left
pub record Routes (start now : Router) (bytes left : List ℕ) : Type 0 where
  pub lines : List (List ℕ)
  pub more : List Part
  pub bytes_are : LeavesBytes start.line bytes lines now.line left
  pub takes : TakesParts start now (read_lines lines) false more
  pub unended : is_unended now.line ≡ true

pub routes_first : (start : Router) (bytes : List ℕ) → is_unended start.line ≡ true → Routes start start bytes bytes
routes_first start bytes unended = record {
  lines = [];
  more = [];
  bytes_are = leaves_all start.line bytes;
  takes = took_none start start refl refl refl refl;
  unended = unended;
}

module _ (start now next : Router) (bytes left front behind : List ℕ) (routes : Routes start now bytes left) (whole : is_unended front ≡ true) (cut : left ≡ front ++ 10 ∷ behind) where
  bytes_next : LeavesBytes start.line bytes (routes.lines ++ (now.line ++ front) ∷ []) [] behind
  bytes_next = leaves_next start.line bytes routes.lines now.line left front behind routes.bytes_are routes.unended whole cut

  -- a line more
  pub routes_next : next.line ≡ [] → (more : List Part) × TakesParts now next (read_lines ((now.line ++ front) ∷ [])) false more → Routes start next bytes behind
  routes_next empty t = record {
    lines = routes.lines ++ (now.line ++ front) ∷ [];
    more = routes.more ++ t.0;
    bytes_are = subst (λ (l : List ℕ). LeavesBytes start.line bytes (routes.lines ++ (now.line ++ front) ∷ []) l behind) (sym empty) bytes_next;
    takes = took_lines start now next routes.lines ((now.line ++ front) ∷ []) false routes.more t.0 routes.takes t.1;
    unended = subst (λ (l : List ℕ). is_unended l ≡ true) (sym empty) refl;
  }

  -- a line that ends the input
  pub routes_quit : (more : List Part) × TakesParts now next (read_lines ((now.line ++ front) ∷ [])) true more
      → (lines : List (List ℕ)) × (more : List Part) × BeginsBytes start.line bytes lines × TakesParts start next (read_lines lines) true more
  routes_quit t = (
    routes.lines ++ (now.line ++ front) ∷ [],
    routes.more ++ t.0,
    leaves_begins start.line bytes (routes.lines ++ (now.line ++ front) ∷ []) [] behind bytes_next,
    took_lines start now next routes.lines ((now.line ++ front) ∷ []) true routes.more t.0 routes.takes t.1,
  )

-- what is left has no LF
pub routes_last : (start now held : Router) (bytes left : List ℕ) → Routes start now bytes left → is_unended left ≡ true → held ≡ record now { line = now.line ++ left }
    → (lines : List (List ℕ)) × (more : List Part) × TakesBytes start.line bytes lines held.line × (is_unended held.line ≡ true) × TakesParts start held (read_lines lines) false more
routes_last start now held bytes left routes whole kept =
    subst (λ (r : Router). (lines : List (List ℕ)) × (more : List Part) × TakesBytes start.line bytes lines r.line × (is_unended r.line ≡ true) × TakesParts start r (read_lines lines) false more) (sym kept) (
      routes.lines,
      routes.more,
      leaves_last start.line bytes routes.lines now.line left routes.bytes_are,
      unended_both now.line left routes.unended whole,
      record { count = routes.takes.count; holds = λ parts h. let g = routes.takes.holds parts h in record { tags = g.tags; lists = g.lists }; takes = routes.takes.takes },
    )

-- ---- an input

-- a router has taken so many bytes of an input
pub record Stands (start now : Router) (left rest : Option (List ℕ)) (count : ℕ) : Type 0 where
  pub bytes : List ℕ
  pub lines : List (List ℕ)
  pub parts : List Part
  pub taken : Consumes left rest bytes
  pub size : length bytes ≡ count
  pub within : count ≤ LIMIT
  pub bytes_are : TakesBytes [] bytes lines now.line
  pub takes : TakesParts start now (read_lines lines) false parts
  pub unended : is_unended now.line ≡ true

-- at the start
pub stands_first : (start : Router) (left : Option (List ℕ)) → start.line ≡ [] → Stands start start left left 0
stands_first start left line = record {
  bytes = [];
  lines = [];
  parts = [];
  taken = consumes_none left;
  size = refl;
  within = omega arith;
  bytes_are = subst (TakesBytes [] [] []) (sym line) (λ more. refl);
  takes = took_none start start refl refl refl refl;
  unended = subst (λ (l : List ℕ). is_unended l ≡ true) (sym line) refl;
}

-- of a router at its start, and where it is now
abbrev IsStart : Router → Type 0
IsStart start = (start.desk ≡ 1) × (start.reader ≡ None)

parts_at : (start now : Router) (lines : List (List ℕ)) (ended : Bool) (parts : List Part) → IsStart start → TakesParts start now lines ended parts
    → PartsOf (length start.lists.items) 1 None lines ended parts now.desk now.reader
parts_at start now lines ended parts first t =
    subst (λ (d : ℕ). PartsOf (length start.lists.items) d None lines ended parts now.desk now.reader) first.0
    (subst (λ (r : Option OpenBlock). PartsOf (length start.lists.items) start.desk r lines ended parts now.desk now.reader) first.1 t.takes)

module _ (start now next : Router) (piece : List ℕ) (left rest behind : Option (List ℕ)) (count more : ℕ) (first : IsStart start) (none : Holds [] start)
    (stands : Stands start now left rest count) (read : Consumes rest behind piece) (size : length piece ≡ more) (within : count + more ≤ LIMIT) where
  both_taken : Consumes left behind (stands.bytes ++ piece)
  both_taken = Consumes-trans left rest behind stands.bytes piece stands.taken read

  both_size : length (stands.bytes ++ piece) ≡ count + more
  both_size = omega (arith, length-append stands.bytes piece, stands.size, size)

  -- more bytes
  pub stands_next : (lines : List (List ℕ)) × (more : List Part) × TakesBytes now.line piece lines next.line × (is_unended next.line ≡ true) × TakesParts now next (read_lines lines) false more
      → Stands start next left behind (count + more)
  stands_next t = record {
    bytes = stands.bytes ++ piece;
    lines = stands.lines ++ t.0;
    parts = stands.parts ++ t.1;
    taken = both_taken;
    size = both_size;
    within = within;
    bytes_are = bytes_both [] stands.bytes piece stands.lines t.0 now.line next.line stands.bytes_are t.2;
    takes = took_lines start now next stands.lines t.0 false stands.parts t.1 stands.takes t.4;
    unended = t.3;
  }

  -- a line that ends the input
  pub stands_quit : (lines : List (List ℕ)) × (more : List Part) × BeginsBytes now.line piece lines × TakesParts now next (read_lines lines) true more
      → (parts : List Part) × Holds parts next × IsRouted (length start.lists.items) false parts left behind
  stands_quit t =
      let n = length start.lists.items in
      let bytes = stands.bytes ++ piece in
      let lines = stands.lines ++ t.0 in
      let parts = stands.parts ++ t.1 in
      let small : length bytes ≤ LIMIT = omega (arith, both_size, within) in
      let begun : BeginsBytes [] bytes lines = begins_bytes [] stands.bytes piece stands.lines t.0 now.line stands.bytes_are t.2 in
      let takes = took_lines start now next stands.lines t.0 true stands.parts t.1 stands.takes t.3 in
      let are = parts_at start next (read_lines lines) true parts first takes in (
        parts,
        takes.holds [] none,
        record {
          bytes = bytes;
          taken = both_taken;
          parts_are = λ more e. (
            sym (quit_parts n next.desk next.reader lines true parts are bytes small begun refl more),
            quit_never n next.desk next.reader lines true parts are bytes small begun refl more,
          );
          through = inr (inr (quit_taken n next.desk next.reader lines true parts are bytes small begun refl));
        },
      )

module _ (start now : Router) (left rest behind : Option (List ℕ)) (count : ℕ) (first : IsStart start) (none : Holds [] start) (stands : Stands start now left rest count) where
  here : length stands.bytes ≤ LIMIT
  here = omega (arith, stands.size, stands.within)

  are_here : PartsOf (length start.lists.items) 1 None (read_lines stands.lines) false stands.parts now.desk now.reader
  are_here = parts_at start now (read_lines stands.lines) false stands.parts first stands.takes

  taken_here : Keeps rest behind → Consumes left behind stands.bytes
  taken_here kept = subst (Consumes left behind) (append-nil stands.bytes) (Consumes-trans left rest behind stands.bytes [] stands.taken (consumes_kept rest behind kept))

  -- the end of the input
  pub stands_ended : (last : Router) → Keeps rest behind → IsAtEnd behind → (more : List Part) × EndsParts now last more
      → (parts : List Part) × Holds parts last × IsRouted (length start.lists.items) false parts left behind
  stands_ended last kept ended t =
      let n = length start.lists.items in
      let bytes = stands.bytes in
      let parts = stands.parts ++ t.0 in
      let final : input_parts n bytes ≡ parts =
      end_parts n now.desk now.reader stands.lines false stands.parts are_here bytes now.line stands.bytes_are stands.unended here refl
      ∙ ap (λ (l : List Part). stands.parts ++ l)
      (ap (λ (k : ℕ). up_to_end (parts_from k now.desk now.reader (last_line now.line))) (sym stands.takes.count) ∙ sym t.1.all) in (
        parts,
        t.1.holds stands.parts (stands.takes.holds [] none),
        record {
          bytes = bytes;
          taken = taken_here kept;
          parts_are = λ more e.
              let empty : more ≡ [] = at_end_none behind more ended e in
              let same : bytes ++ more ≡ bytes = ap (λ (l : List ℕ). bytes ++ l) empty ∙ append-nil bytes in
              (sym (ap (input_parts n) same ∙ final), ap (passes_limit n) same ∙ end_never n bytes here);
          through = inl ended;
        },
      )

  -- a byte past the limit
  pub stands_past : count ≡ LIMIT → TakesJust 1 rest behind → (parts : List Part) × Holds parts now × IsRouted (length start.lists.items) true parts left behind
  stands_past full past =
      let n = length start.lists.items in
      let bytes = stands.bytes ++ past.0 in (
        stands.parts,
        stands.takes.holds [] none,
        record {
          bytes = bytes;
          taken = Consumes-trans left rest behind stands.bytes past.0 stands.taken past.1;
          parts_are = λ more e.
              let cut : bytes ++ more ≡ stands.bytes ++ (past.0 ++ more) = append_assoc stands.bytes past.0 more in
              let longer : LIMIT < length (stands.bytes ++ (past.0 ++ more)) =
              omega (arith, length-append stands.bytes (past.0 ++ more), length-append past.0 more, past.2, stands.size, full) in
              let size : length stands.bytes ≡ LIMIT = omega (arith, stands.size, full) in (
                sym (ap (input_parts n) cut
                    ∙ past_parts n now.desk now.reader stands.lines false stands.parts are_here stands.bytes now.line stands.bytes_are stands.unended (past.0 ++ more) size longer refl),
                ap (passes_limit n) cut
                    ∙ past_is n now.desk now.reader stands.lines false stands.parts are_here stands.bytes now.line stands.bytes_are stands.unended (past.0 ++ more) size longer refl,
              );
          through = inr (inl (omega (arith, length-append stands.bytes past.0, past.2, stands.size, full)));
        },
      )
