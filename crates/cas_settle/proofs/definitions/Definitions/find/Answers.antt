use Rattle.std.proofs.Common.{◌≡◌, ◌∙◌, ap, sym}
use Rattle.std.specs.Borrow.{Bor}
use Rattle.std.specs.Option.{option_map}
use Rattle.cas_settle.specs.declared.definitions.Definition.{Definition}
use Rattle.cas_base.specs.Decl.{definition_of}
use Rattle.cas_settle.specs.Located.{Located, decls_in, located, location_of}
use Rattle.cas_settle.proofs.FindLemmas.{definition_of-location, location_of-lookup}
use Rattle.cas_settle.proofs.OptionLemmas.{option_map-copied, option_map-option_map}
use Rattle.cas_settle.proofs.definitions.Definitions.find.Goals as goal

pub returns : goal.returns
returns c =
    let location : option_map (λ (found : Bor Definition). located found.now) c.get.result ≡ location_of c.args.self.now
    c.args.name.now =
    option_map-copied located c.get.result
    ∙ ap (option_map located) c.get.ensures.value
    ∙ location_of-lookup c.args.name.now c.self.inside.table.entries c.self.invariant.keyed
    ∙ ap (λ found. location_of found c.args.name.now) c.self.view_is in
    record {
      location = location;
      decl =
          sym (option_map-option_map (λ (found : Bor Definition). located found.now) (λ (item : Located). item.decl)
          c.get.result)
          ∙ ap (option_map (λ (item : Located). item.decl)) location
          ∙ definition_of-location c.args.name.now c.args.self.now;
    }
