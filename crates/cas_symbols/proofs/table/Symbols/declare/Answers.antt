use Rattle.std.proofs.Common.{◌≡◌, ◌^◌, ◌<◌, List, [], ◌∷◌, ◌++◌, length, map, Some, cond, ap, refl, sym, subst, ◌∙◌, arith}
use Rattle.std.proofs.lemmas.List.{length-map, length_push, map_push}
use Rattle.std.proofs.lemmas.Map.Text.{hash_map_updates_str}
use Rattle.std.specs.List.{list_any}
use Rattle.std.specs.Map.{lookup}
use Rattle.std.specs.Str.{bytes_eq}
use Rattle.cas_base.specs.Decl.{definitions, is_named}
use Rattle.cas_base.specs.declared.decl.Decl.{Decl}
use Rattle.cas_symbols.proofs.Declared.{IsFound, index_with}
use Rattle.cas_typed.specs.Scopes.{item_named}
use Rattle.cas_symbols.proofs.table.Symbols.declare.Goals as goal

pub invariant_of-self-in-Ok : goal.invariant_of-self-in-Ok
invariant_of-self-in-Ok c =
    let held = c.self.inside in
    let d = c.args.decl.now in
    let first = c.get_with-symbol.result in
    let ds : List Decl = map (λ decl. decl.now) held.decls.items in
    let shown : map (λ decl. decl.now) c.push.new.self.items ≡ ds ++ d ∷ [] =
    ap (map (λ decl. decl.now)) c.in_ok-push.ensures.items ∙ map_push (λ decl. decl.now) held.decls.items c.args.decl in
    let few : length c.push.new.self.items < 2 ^ 32 =
    omega (
      arith,
      c.self.invariant.0,
      c.len.ensures,
      c.if-len.false,
      ap length c.self.view_is,
      length-map
          held.decls.items (λ decl. decl.now),
      ap length c.in_ok-push.ensures.items,
      length_push held.decls.items
          c.args.decl,
    ) in (
      few,
      λ name.
          let found = lookup (λ key. bytes_eq name key.now) held.table.entries in
          let updated = hash_map_updates_str c.as_str.result.now held.table c.insert.new.self
          (Some first) c.in-Ok.ensures.updates name in
          subst (λ all. IsFound (lookup (λ key. bytes_eq name key.now) c.insert.new.self.entries) all name) (sym shown)
          (index_with ds d first found (lookup (λ key. bytes_eq name key.now) c.insert.new.self.entries) name
          (updated ∙ ap (λ key. cond (bytes_eq key name) (Some first) found) c.as_str.ensures.text)
          (c.self.invariant.1 name).0 (c.self.invariant.1 name).1
          (c.get_with-symbol.ensures.meaning ∙ ap (λ all. item_named 0 (all ++ d ∷ []) d.name) (sym c.self.view_is))
          (c.get_with-symbol.ensures.defined ∙ ap (λ all. list_any (is_named d.name) (definitions (all ++ d ∷ [])))
          (sym c.self.view_is))
          (bytes_eq d.name name) refl),
    )
