-- `proc` of the modules of a list, one after another.
use Rattle.std.proofs.Common.{◌≡◌, ℕ, zero, suc, ◌+◌, ◌<◌, List, [], ◌∷◌, ◌++◌, length, drop, get_or, map, Option, Some, None, inl, inr, refl, sym, ◌∙◌, ap, subst, add-one, append_assoc, arith}
use Rattle.std.specs.Prelude.{option_and_then, option_map, slice_get, unwrap_or}
use Rattle.std.proofs.Math.Seq.{drop-cons}
use Rattle.rtl_ir.specs.declared.module.Module.{Module}
use Rattle.rtl_ir.specs.declared.ports.PortTable.{PortTable}
use Rattle.rtl_ir.specs.Ports.{instances_of, port_table_of, ports_by_module}
use Rattle.net_model.specs.Lists.{In}
use Rattle.script_core.specs.declared.word.Word.TheVariants.{Proc}
use Rattle.script_core.specs.Fold.{MayBeGiven, MayEachStart, each_proc, pass_of}
use Rattle.script_core.specs.Reached.{table_of}

-- the module at a place
module_there : (ms : List Module) (at : ℕ) (m : Module) → at < length ms → m ≡ get_or ms at m → slice_get ms at ≡ Some m
module_there [] at m h e = absurd (omega (arith, h))
module_there (n ∷ ms) zero m h e = ap Some (sym e)
module_there (n ∷ ms) (suc at) m h e = let inside : at < length ms = omega (arith, h) in module_there ms at m inside e

there_in : (ms : List Module) (at : ℕ) (m : Module) → at < length ms → m ≡ get_or ms at m → In m ms
there_in [] at m h e = absurd (omega (arith, h))
there_in (n ∷ ms) zero m h e = inl e
there_in (n ∷ ms) (suc at) m h e = let inside : at < length ms = omega (arith, h) in inr (there_in ms at m inside e)

module _ (modules : List Module) where
  -- what was made so far, before what is made of the modules that are left
  abbrev pub with_rest : List Module → List Module → Option (List Module)
  with_rest done ms = option_map (λ rest. done ++ rest) (each_proc modules ms)

  module _ (at : ℕ) (m : Module) (h : at < length modules) (e : m ≡ get_or modules at m) (ports : PortTable) (its : ports.modules ≡ port_table_of modules at) where
    -- the table of the module at the place
    table_there : ports ≡ table_of modules m
    table_there =
        ap (λ ts. record { modules = ts })
        (its ∙ ap (λ (o : Option Module). map ports_by_module (instances_of modules (unwrap_or (option_map (λ (k : Module). k.cells) o) []))) (module_there modules at m h e))

    -- it may be given to `proc` where each may
    pub may_start : MayEachStart modules → MayBeGiven ports Proc m
    may_start all = subst (λ t. MayBeGiven t Proc m) (sym table_there) (all m (there_in modules at m h e))

    next : drop at modules ≡ m ∷ drop (at + 1) modules
    next = drop-cons modules at m h ∙ (λ i. sym e i ∷ drop (sym (add-one at) i) modules)

    -- `proc` of the module there, before those that follow
    abbrev step : Option Module → Option (List Module)
    step o = option_and_then (λ after. option_map (λ rest. after ∷ rest) (each_proc modules (drop (at + 1) modules))) o

    here : each_proc modules (drop at modules) ≡ step (pass_of ports Proc m)
    here = ap (each_proc modules) next ∙ ap (λ t. step (pass_of t Proc m)) (sym table_there)

    pub one_more : (done all : List Module) (n : Module) (whole : Option (List Module)) → pass_of ports Proc m ≡ Some n → all ≡ done ++ n ∷ [] → with_rest done (drop at modules) ≡ whole → with_rest all (drop (at + 1) modules) ≡ whole
    one_more done all n whole made more so =
        ap (λ ds. with_rest ds (drop (at + 1) modules)) more
        ∙ by (each_proc modules (drop (at + 1) modules))
        ∙ sym (ap (option_map (λ rest. done ++ rest)) (here ∙ ap step made))
        ∙ so
      where
        by : (o : Option (List Module)) → option_map (λ rest. (done ++ n ∷ []) ++ rest) o ≡ option_map (λ rest. done ++ rest) (option_map (λ rest. n ∷ rest) o)
        by None = refl
        by (Some rest) = ap Some (append_assoc done (n ∷ []) rest)

    pub one_over : (done : List Module) (whole : Option (List Module)) → pass_of ports Proc m ≡ None → with_rest done (drop at modules) ≡ whole → whole ≡ None
    one_over done whole over so = sym so ∙ ap (option_map (λ rest. done ++ rest)) (here ∙ ap step over)
