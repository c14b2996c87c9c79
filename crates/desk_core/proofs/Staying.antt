-- Results that stay beside their modules where a design changes.
use Rattle.std.proofs.Common.{◌≡◌, ◌≢◌, ◌⊎◌, inl, inr, ℕ, zero, suc, ◌+◌, ◌-◌, ◌<◌, ◌≤◌, List, [], ◌∷◌, ◌++◌, Bool, true, false, cond, not, length, drop, get_or, set, min, slice_get, Option, Some, None, Result, Ok, Err, refl, sym, ap, subst, ◌∙◌, arith, append_assoc, true≢false}
use Rattle.std.specs.Prelude.{IfOk, IfSome, map, remove, replicate, unwrap_or}
use Rattle.std.specs.List.{AllByRecursion, IsDistinct, find}
use Rattle.std.specs.Option.{is_some, option_map}
use Rattle.std.specs.Result.{result_ok}
use Rattle.std.specs.Str.{bytes_eq}
use Rattle.std.proofs.lemmas.List.{append-nil, length-append, length-replicate, length-set}
use Rattle.std.proofs.lemmas.Option.{slice_get-get_or}
use Rattle.std.proofs.lemmas.Slice.Eq.{bytes_eq-Decides}
use Rattle.std.proofs.lemmas.List.Quantifiers.{position-Some}
use Rattle.rtl_ir.specs.declared.module.Design.{Design}
use Rattle.rtl_ir.specs.declared.module.Module.{Module}
use Rattle.rtl_ir.specs.Faults.Recursion.{place_named}
use Rattle.rtl_ir.specs.Ports.{port_table_of}
use Rattle.rtl_sig.specs.Names.{has_name}
use Rattle.rtl_readable.specs.Readable.{IsReadable}
use Rattle.rtl_write.specs.Ports.{ports_text}
use Rattle.rtl_write.specs.Text.{body_text}
use Rattle.design_edit.proofs.Naming.{has_none, has_one, place_within}
use Rattle.design_edit.specs.Modules.{has_module, with_module, with_modules, without_module}
use Rattle.script_core.specs.declared.built.Built.{Built}
use Rattle.script_core.specs.declared.word.Word.{Word}
use Rattle.script_core.specs.Keys.{KeyParts, below_text_at, body_text_at, key_of, key_text}
use Rattle.desk_core.specs.Beside.{AreSeen, AreStill, SeesOwn, unedited, unless_edited}
use Rattle.desk_core.specs.Results.{AreBeside, IsResultAt}
use Rattle.desk_core.proofs.Lists.{get_set_other, get_set_same, same_number}
use Rattle.desk_core.proofs.Outcomes.{front, split}

-- the results so far, with that of one module more
pub unedited_next : (edits ms : List Module) (fs : List (Option Built)) (at : ℕ) (m : Module) (r kept : Option Built) (rest more all : List (Option Built)) → at < length ms → at < length fs → m ≡ get_or ms at m → r ≡ get_or fs at r
    → kept ≡ unless_edited edits m r → more ≡ rest ++ kept ∷ [] → rest ++ unedited edits (drop at ms) (drop at fs) ≡ all → more ++ unedited edits (drop (at + 1) ms) (drop (at + 1) fs) ≡ all
unedited_next edits ms fs at m r kept rest more all lm lf im ir is put before =
    ap (λ (l : List (Option Built)). l ++ unedited edits (drop (at + 1) ms) (drop (at + 1) fs)) put
    ∙ append_assoc rest (kept ∷ []) (unedited edits (drop (at + 1) ms) (drop (at + 1) fs))
    ∙ ap (λ (k : Option Built). rest ++ k ∷ unedited edits (drop (at + 1) ms) (drop (at + 1) fs)) is
    ∙ sym (ap (λ (l : List Module). rest ++ unedited edits l (drop at fs)) (front ms at m lm im)
    ∙ ap (λ (l : List (Option Built)). rest ++ unedited edits (m ∷ drop (at + 1) ms) l) (front fs at r lf ir))
    ∙ before

no_results : (edits ms : List Module) → unedited edits ms [] ≡ []
no_results edits [] = refl
no_results edits (m ∷ ms) = refl

past : {X : Type 0} (xs : List X) (at : ℕ) → length xs ≤ at → drop at xs ≡ []
past [] zero le = refl
past [] (suc at) le = refl
past (x ∷ xs) zero le = absurd (omega (arith, le))
past (x ∷ xs) (suc at) le = past xs at (omega (arith, le))

-- no module is left
pub unedited_end : (edits ms : List Module) (fs : List (Option Built)) (at : ℕ) (rest all : List (Option Built)) → min (length ms) (length fs) ≤ at → rest ++ unedited edits (drop at ms) (drop at fs) ≡ all → rest ≡ all
unedited_end edits ms fs at rest all le before =
    sym (append-nil rest) ∙ ap (λ (l : List (Option Built)). rest ++ l) (sym (by (split (length ms) at))) ∙ before
  where
    by : (length ms ≤ at) ⊎ (at < length ms) → unedited edits (drop at ms) (drop at fs) ≡ []
    by (inl h) = ap (λ (l : List Module). unedited edits l (drop at fs)) (past ms at h)
    by (inr h) = ap (unedited edits (drop at ms)) (past fs at (omega (arith, le, h))) ∙ no_results edits (drop at ms)

pub unedited_long : (edits ms : List Module) (fs : List (Option Built)) → length fs ≡ length ms → length (unedited edits ms fs) ≡ length fs
unedited_long edits [] [] e = refl
unedited_long edits [] (f ∷ fs) e = absurd (omega (arith, e))
unedited_long edits (m ∷ ms) [] e = refl
unedited_long edits (m ∷ ms) (f ∷ fs) e = ap suc (unedited_long edits ms fs (omega (arith, e)))

-- a result that stayed is one that was there, of a module that is not edited
record IsUnedited (edits ms : List Module) (fs : List (Option Built)) (at : ℕ) (built : Built) : Type 0 where
  one : Module
  there : slice_get ms at ≡ Some one
  free : has_module edits one.id ≡ false
  found : slice_get fs at ≡ Some (Some built)

is_unedited : (edits ms : List Module) (fs : List (Option Built)) (at : ℕ) (built : Built) → slice_get (unedited edits ms fs) at ≡ Some (Some built) → IsUnedited edits ms fs at built
is_unedited edits [] fs at built h = absurd cc
is_unedited edits (m ∷ ms) [] at built h = absurd cc
is_unedited edits (m ∷ ms) (f ∷ fs) zero built h = by (has_module edits m.id) refl h
  where
    by : (b : Bool) → has_module edits m.id ≡ b → Some (cond b None f) ≡ Some (Some built) → IsUnedited edits (m ∷ ms) (f ∷ fs) zero built
    by true e k = absurd cc
    by false e k = record { one = m; there = refl; free = e; found = k }
is_unedited edits (m ∷ ms) (f ∷ fs) (suc at) built h =
    let rest = is_unedited edits ms fs at built h in
    record { one = rest.one; there = rest.there; free = rest.free; found = rest.found }

other_way : (a b : List ℕ) → bytes_eq a b ≡ false → bytes_eq b a ≡ false
other_way a b ne = by (bytes_eq b a) refl
  where
    by : (t : Bool) → bytes_eq b a ≡ t → t ≡ false
    by true e = absurd (true≢false (sym ((bytes_eq-Decides a b).1 (sym ((bytes_eq-Decides b a).0 e))) ∙ ne))
    by false e = refl

-- a module stays in its place where one of another name is put among the modules
stays_with : (ms : List Module) (e : Module) (at : ℕ) (m : Module) → slice_get ms at ≡ Some m → bytes_eq e.id m.id ≡ false → slice_get (with_module ms e) at ≡ Some m
stays_with [] e at m h ne = absurd cc
stays_with (n ∷ ms) e zero m h ne =
    let same : n ≡ m = cc in
    ap (λ (b : Bool). slice_get (cond b (e ∷ ms) (n ∷ with_module ms e)) zero) (ap (λ (k : Module). bytes_eq k.id e.id) same ∙ other_way e.id m.id ne) ∙ h
stays_with (n ∷ ms) e (suc at) m h ne = by (bytes_eq n.id e.id) (stays_with ms e at m h ne)
  where
    by : (b : Bool) → slice_get (with_module ms e) at ≡ Some m → slice_get (cond b (e ∷ ms) (n ∷ with_module ms e)) (suc at) ≡ Some m
    by true rest = h
    by false rest = rest

pub stays_edited : (edits ms : List Module) (at : ℕ) (m : Module) → slice_get ms at ≡ Some m → has_module edits m.id ≡ false → slice_get (with_modules ms edits) at ≡ Some m
stays_edited [] ms at m h free = h
stays_edited (e ∷ edits) ms at m h free =
    by (bytes_eq e.id m.id) refl free (λ there none. stays_edited edits (with_module ms e) at m there none)
  where
    by : (b : Bool) → bytes_eq e.id m.id ≡ b → is_some (cond b (Some e) (find (λ (n : Module). bytes_eq n.id m.id) edits)) ≡ false
        → (slice_get (with_module ms e) at ≡ Some m → has_module edits m.id ≡ false → slice_get (with_modules (with_module ms e) edits) at ≡ Some m) → slice_get (with_modules (with_module ms e) edits) at ≡ Some m
    by true is none later = absurd (true≢false none)
    by false is none later = later (stays_with ms e at m h is) none

module _ {script : List Word} {keys : List (List ℕ)} where
  -- the results of the modules that are not edited
  pub still_edited : (edits ms : List Module) (fs : List (Option Built)) → ((at : ℕ) (built : Built) → slice_get fs at ≡ Some (Some built) → IsResultAt script ms keys at built)
      → AreStill script ms (with_modules ms edits) keys (unedited edits ms fs)
  still_edited edits ms fs own = λ at built is.
      let one = is_unedited edits ms fs at built is in
      record { was = at; same = stays_edited edits ms at one.one one.there one.free ∙ sym one.there; result = own at built one.found }

  -- there is no result
  pub still_none : (old new : List Module) → AreStill script old new keys []
  still_none old new = λ at built is. absurd cc

  -- nothing stands beside further modules
  pub still_filled : (old new : List Module) (fs : List (Option Built)) (n : ℕ) → AreStill script old new keys fs → AreStill script old new keys (fs ++ replicate n None)
  still_filled old new fs n h = λ at built is. h at built (by built fs at is)
    where
      nothing : (k at : ℕ) (built : Built) → slice_get (replicate k None) at ≡ Some (Some built) → ⊥
      nothing zero at built is = absurd cc
      nothing (suc k) zero built is = absurd cc
      nothing (suc k) (suc at) built is = nothing k at built is

      by : (built : Built) (xs : List (Option Built)) (at : ℕ) → slice_get (xs ++ replicate n None) at ≡ Some (Some built) → slice_get xs at ≡ Some (Some built)
      by built [] at is = absurd (nothing n at built is)
      by built (x ∷ xs) zero is = is
      by built (x ∷ xs) (suc at) is = by built xs at is

-- where an item behind one at a place stood before that one was taken out
abbrev behind : ℕ → ℕ → ℕ
behind zero k = suc k
behind (suc at) zero = zero
behind (suc at) (suc k) = suc (behind at k)

module _ {X : Type 0} where
  get_removed : (xs : List X) (at k : ℕ) → at < length xs → slice_get (remove xs at) k ≡ slice_get xs (behind at k)
  get_removed [] at k lt = absurd (omega arith)
  get_removed (x ∷ xs) zero k lt = refl
  get_removed (x ∷ xs) (suc at) zero lt = refl
  get_removed (x ∷ xs) (suc at) (suc k) lt = get_removed xs at k (omega (arith, lt))

  pub length_removed : (xs : List X) (at : ℕ) → at < length xs → suc (length (remove xs at)) ≡ length xs
  length_removed [] at lt = absurd (omega arith)
  length_removed (x ∷ xs) zero lt = refl
  length_removed (x ∷ xs) (suc at) lt = ap suc (length_removed xs at (omega (arith, lt)))

-- the results beside the modules but one
pub still_removed : {script : List Word} {keys : List (List ℕ)} (ms : List Module) (fs : List (Option Built)) (at : ℕ) → length fs ≡ length ms → at < length ms
    → ((k : ℕ) (built : Built) → slice_get fs k ≡ Some (Some built) → IsResultAt script ms keys k built) → AreStill script ms (remove ms at) keys (remove fs at)
still_removed ms fs at long lt own = λ k built is. record {
  was = behind at k;
  same = get_removed ms at k lt;
  result = own (behind at k) built (sym (get_removed fs at k (omega (arith, long, lt))) ∙ is);
}

abbrev ids : List Module → List (List ℕ)
ids ms = map (λ (m : Module). m.id) ms

-- a name is none of these
abbrev Differs : List ℕ → List (List ℕ) → Type 0
Differs name names = AllByRecursion (λ other. bytes_eq name other ≡ false) names

-- the modules without the one of a name are those without the one at its place
without_none : (name : List ℕ) (ms : List Module) → Differs name (ids ms) → without_module ms name ≡ ms
without_none name [] h = refl
without_none name (m ∷ ms) h =
    ap (λ (b : Bool). cond (not b) (m ∷ without_module ms name) (without_module ms name)) (other_way name m.id h.0)
    ∙ ap (λ (l : List Module). m ∷ l) (without_none name ms h.1)

without_at : (name : List ℕ) (ms : List Module) (at : ℕ) (d : Module) → IsDistinct bytes_eq (ids ms) → at < length ms → bytes_eq (get_or ms at d).id name ≡ true → ((k : ℕ) → k < at → bytes_eq (get_or ms k d).id name ≡ false)
    → without_module ms name ≡ remove ms at
unfolding IsDistinct
without_at name [] at d h lt here before = absurd (omega arith)
without_at name (m ∷ ms) zero d h lt here before =
    ap (λ (b : Bool). cond (not b) (m ∷ without_module ms name) (without_module ms name)) here
    ∙ without_none name ms (subst (λ (n : List ℕ). Differs n (ids ms)) ((bytes_eq-Decides m.id name).0 here) h.0)
without_at name (m ∷ ms) (suc at) d h lt here before =
    ap (λ (b : Bool). cond (not b) (m ∷ without_module ms name) (without_module ms name)) (before zero (omega arith))
    ∙ ap (λ (l : List Module). m ∷ l) (without_at name ms at d h.1 (omega (arith, lt)) here (λ k below. before (suc k) (omega (arith, below))))

pub without_is : (name : List ℕ) (ms : List Module) (at : ℕ) → IsReadable (record { modules = ms }) → place_named ms name ≡ Some at → without_module ms name ≡ remove ms at
without_is name [] at readable is = absurd cc
without_is name (m ∷ ms) at readable is =
    let found = position-Some (λ (k : Module). bytes_eq k.id name) (m ∷ ms) at m is in
    without_at name (m ∷ ms) at m readable.distinct found.0 found.1 found.2

pub place_inside : (name : List ℕ) (ms : List Module) (at : ℕ) → place_named ms name ≡ Some at → at < length ms
place_inside name [] at is = absurd cc
place_inside name (m ∷ ms) at is = place_within (m ∷ ms) name at m is

-- there is one module less
pub one_less : (name : List ℕ) (ms : List Module) (at : ℕ) → IsReadable (record { modules = ms }) → place_named ms name ≡ Some at → suc (length (without_module ms name)) ≡ length ms
one_less name ms at readable is =
    ap (λ (l : List Module). suc (length l)) (without_is name ms at readable is) ∙ length_removed ms at (place_inside name ms at is)

-- a key by its parts
key_is : (key : KeyParts) (body ports : List ℕ) (script : List Word) (below : List ℕ) → key.body ≡ body → key.ports ≡ ports → key.script ≡ script → key.below ≡ below
    → key ≡ record { body = body; ports = ports; script = script; below = below }
key_is key body ports script below e f g h = λ i. record { body = e i; ports = f i; script = g i; below = h i }

-- the key of a module that stayed and sees the ports of its key
pub own_seen : {script : List Word} {keys : List (List ℕ)} (old new : List Module) (was now : List (Option Built)) → AreStill script old new keys was → AreSeen new was now
    → (at : ℕ) (built : Built) → slice_get now at ≡ Some (Some built) → IsResultAt script new keys at built
own_seen {script} {keys} old new was now still seen at built is =
    let here = seen.own at built is in
    let h = still at built here.0 in
    let same : built.key.script ≡ script = ap (λ (k : KeyParts). k.script) h.result.key in
    let key : built.key ≡ key_of new at script =
    key_is built.key (body_text_at new at) (ports_text (record { modules = port_table_of new at })) script (below_text_at script new at)
    (ap (λ (k : KeyParts). k.body) h.result.key ∙ ap (λ (m : Option Module). unwrap_or (option_map body_text m) []) (sym h.same))
    here.1.ports same (here.1.below ∙ ap (λ (words : List Word). below_text_at words new at) same) in
    record {
      key = key;
      value = h.result.value;
      kept = ap (λ (k : KeyParts). has_name keys (key_text k)) (sym key ∙ h.result.key) ∙ h.result.kept;
    }

-- results that stayed beside the modules of a new design, of which each sees the ports of its key
pub beside_still : {script : List Word} {keys : List (List ℕ)} (design after : Design) (was now : List (Option Built)) → IsReadable after → length was ≡ length after.modules
    → AreStill script design.modules after.modules keys was → AreSeen after.modules was now → AreBeside keys after script now
beside_still design after was now readable long still seen = record {
  readable = readable;
  beside = seen.count ∙ long;
  own = own_seen design.modules after.modules was now still seen;
}

get_within : {X : Type 0} (xs : List X) (at : ℕ) (x : X) → slice_get xs at ≡ Some x → at < length xs
get_within [] at x is = absurd cc
get_within (y ∷ xs) zero x is = omega arith
get_within (y ∷ xs) (suc at) x is = let lt = get_within xs at x is in omega (arith, lt)

got : {X : Type 0} (xs : List X) (at : ℕ) (x y : X) → y ≡ get_or xs at y → slice_get xs at ≡ Some x → y ≡ x
got xs at x y is there =
    let same : Some y ≡ Some x = sym (slice_get-get_or xs at y (get_within xs at x there) ∙ ap Some (sym is)) ∙ there in
    cc

shorter_with : (ms : List Module) (e : Module) → length ms ≤ length (with_module ms e)
shorter_with [] e = omega arith
shorter_with (m ∷ ms) e = by (bytes_eq m.id e.id) (shorter_with ms e)
  where
    by : (b : Bool) → length ms ≤ length (with_module ms e) → suc (length ms) ≤ length (cond b (e ∷ ms) (m ∷ with_module ms e))
    by true le = omega arith
    by false le = omega (arith, le)

-- edits take no module away
pub shorter_edited : (edits ms : List Module) → length ms ≤ length (with_modules ms edits)
shorter_edited [] ms = omega arith
shorter_edited (e ∷ edits) ms =
    let one = shorter_with ms e in
    let rest = shorter_edited edits (with_module ms e) in
    omega (arith, one, rest)

abbrev nones : ℕ → List (Option Built)
nones n = replicate n None

filled_long : (found : List (Option Built)) (n : ℕ) → length found ≤ n → length (found ++ nones (n - length found)) ≡ n
filled_long found n le =
    let whole = length-append found (nones (n - length found)) in
    let more : length (nones (n - length found)) ≡ n - length found = length-replicate (n - length found) None in
    omega (arith, le, whole, more)

-- there are as many results after an edit as modules
pub long_edited : (design after : Design) (edits : List Module) (was found filled : List (Option Built)) (count : ℕ) → length was ≡ length design.modules → after.modules ≡ with_modules design.modules edits
    → count ≡ length after.modules → found ≡ unedited edits design.modules was → filled ≡ found ++ replicate (count - length found) None → length filled ≡ length after.modules
long_edited design after edits was found filled count h are many is put =
    let long : length found ≡ length design.modules = ap length is ∙ unedited_long edits design.modules was h ∙ h in
    let enough : length found ≤ count = (let le = shorter_edited edits design.modules in let all = ap length are in omega (arith, le, all, long, many)) in
    ap length put ∙ filled_long found count enough ∙ many

-- the results beside the modules after an edit
pub present_edited : (keys : List (List ℕ)) (design after : Design) (script : List Word) (edits : List Module) (was found filled now : List (Option Built)) (count : ℕ) → AreBeside keys design script was → IsReadable after
    → after.modules ≡ with_modules design.modules edits → count ≡ length after.modules → found ≡ unedited edits design.modules was → filled ≡ found ++ replicate (count - length found) None
    → AreSeen after.modules filled now → AreBeside keys after script now
present_edited keys design after script edits was found filled now count h readable are many is put seen =
    beside_still design after filled now readable (long_edited design after edits was found filled count h.beside are many is put)
    (subst (AreStill script design.modules after.modules keys) (sym put)
    (still_filled design.modules after.modules found (count - length found)
    (subst (AreStill script design.modules after.modules keys) (sym is)
    (subst (λ (ms : List Module). AreStill script design.modules ms keys (unedited edits design.modules was)) (sym are)
    (still_edited edits design.modules was h.own)))))
    seen

-- there are as many results after a removal as modules
pub long_removed : (design after : Design) (name : List ℕ) (at : ℕ) (was found : List (Option Built)) → IsReadable design → length was ≡ length design.modules
    → after.modules ≡ without_module design.modules name → place_named design.modules name ≡ Some at → found ≡ remove was at → length found ≡ length after.modules
long_removed design after name at was found readable h are place is =
    let lt = place_inside name design.modules at place in
    let a = length_removed was at (omega (arith, lt, h)) in
    let b = one_less name design.modules at readable place in
    let e = ap length is in
    let f = ap length are in
    omega (arith, a, b, e, f, h)

-- the results beside the modules after a removal
pub present_removed : (keys : List (List ℕ)) (design after : Design) (script : List Word) (name : List ℕ) (at : ℕ) (was found now : List (Option Built)) → AreBeside keys design script was → IsReadable after
    → after.modules ≡ without_module design.modules name → place_named design.modules name ≡ Some at → found ≡ remove was at → AreSeen after.modules found now → AreBeside keys after script now
present_removed keys design after script name at was found now h readable are place is seen =
    let rest : after.modules ≡ remove design.modules at = are ∙ without_is name design.modules at h.readable place in
    beside_still design after found now readable (long_removed design after name at was found h.readable h.beside are place is)
    (subst (AreStill script design.modules after.modules keys) (sym is)
    (subst (λ (ms : List Module). AreStill script design.modules ms keys (remove was at)) (sym rest)
    (still_removed design.modules was at h.beside (place_inside name design.modules at place) h.own)))
    seen

-- a place is found where a module has the name
pub is_there : {X : Type 0} (place : X → ℕ) (found : Option X) (name : List ℕ) (modules : List Module) → option_map place found ≡ place_named modules name → is_some found ≡ has_module modules name
is_there place None name modules is = sym (has_none modules name (sym is))
is_there place (Some x) name modules is = sym (has_one modules name (place x) (sym is))

-- what was made without a fault, as an option
module _ {X E : Type 0} where
  pub ok_some : (r : Result X E) (o : Option X) (P : X → Type 0) → o ≡ result_ok r → IfOk r P → IfSome o P
  ok_some (Ok x) o P is h = subst (λ (k : Option X). IfSome k P) (sym is) h
  ok_some (Err e) o P is h = subst (λ (k : Option X). IfSome k P) (sym is) tt

-- of the results below a place those stayed whose modules see their ports
pub record AreSeenBelow (modules : List Module) (old now : List (Option Built)) (at : ℕ) : Type 0 where
  pub count : length now ≡ length old
  pub own :
      (k : ℕ) (built : Built) → slice_get now k ≡ Some (Some built) →
      (slice_get old k ≡ Some (Some built)) × (k < at → SeesOwn modules k built)

module _ {modules : List Module} {old now : List (Option Built)} {at : ℕ} where
  -- one more stays
  pub seen_stays : (r : Option Built) → r ≡ get_or now at r → IfSome r (SeesOwn modules at) → AreSeenBelow modules old now at → AreSeenBelow modules old now (at + 1)
  seen_stays r is own h = record {
    count = h.count;
    own = λ k built there. ((h.own k built there).0, λ lt. by k built there lt (same_number k at));
  }
    where
      by : (k : ℕ) (built : Built) → slice_get now k ≡ Some (Some built) → k < at + 1 → (k ≡ at) ⊎ (k ≢ at) → SeesOwn modules k built
      by k built there lt (inl e) =
          let here : r ≡ Some built = got now at (Some built) r is (ap (slice_get now) (sym e) ∙ there) in
          subst (λ (n : ℕ). SeesOwn modules n built) (sym e) (subst (λ (o : Option Built). IfSome o (SeesOwn modules at)) here own)
      by k built there lt (inr ne) = (h.own k built there).1 (omega (arith, lt, ne))

  -- one more goes
  pub seen_goes : (more : List (Option Built)) → at < length now → more ≡ set now at None → AreSeenBelow modules old now at → AreSeenBelow modules old more (at + 1)
  seen_goes more lt is h = subst (λ (l : List (Option Built)). AreSeenBelow modules old l (at + 1)) (sym is) record {
    count = length-set now at None ∙ h.count;
    own = λ k built there. by k built there (same_number k at);
  }
    where
      by : (k : ℕ) (built : Built) → slice_get (set now at None) k ≡ Some (Some built) → (k ≡ at) ⊎ (k ≢ at) → (slice_get old k ≡ Some (Some built)) × (k < at + 1 → SeesOwn modules k built)
      by k built there (inl e) =
          let no : Some None ≡ Some (Some built) = sym (get_set_same now at None lt) ∙ ap (slice_get (set now at None)) (sym e) ∙ there in
          absurd cc
      by k built there (inr ne) =
          let was = h.own k built (sym (get_set_other now at k None ne) ∙ there) in
          (was.0, λ lt. was.1 (omega (arith, lt, ne)))

  -- all were looked at
  pub seen_all : length now ≤ at → AreSeenBelow modules old now at → AreSeen modules old now
  seen_all le h = record {
    count = h.count;
    own = λ k built there.
        let lt = get_within now k (Some built) there in
        ((h.own k built there).0, (h.own k built there).1 (omega (arith, le, lt)));
  }

pub seen_none : (modules : List Module) (old : List (Option Built)) → AreSeenBelow modules old old 0
seen_none modules old = record { count = refl; own = λ k built there. (there, λ lt. absurd (omega (arith, lt))) }
