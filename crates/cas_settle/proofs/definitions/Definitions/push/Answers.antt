use Rattle.std.proofs.Common.{ℕ, ◌-◌, ◌^◌, min, [], ◌∷◌, ◌++◌, ap, ◌∙◌}
use Rattle.cas_settle.specs.declared.definitions.Definition.{Definition}
use Rattle.cas_settle.specs.Located.{Located, located, decls_in}
use Rattle.cas_settle.specs.Settle.{words_of}
use Rattle.cas_settle.proofs.CountLemmas.{min_min}
use Rattle.cas_settle.proofs.PushLemmas.{keyed-push, shown-push, words-push, locks-push}
use Rattle.cas_settle.proofs.definitions.Definitions.push.Goals as goal

pub invariant_of-self-2 : goal.invariant_of-self-2
invariant_of-self-2 c =
    let definition : Definition =
    record { decl = c.args.decl; unit = c.args.unit; place = c.args.place; word = c.min.result } in
    let table = c.self.inside.table in
    let invariant = c.self.invariant in
    let inserted = c.in_ok-insert.ensures.entries in
    record {
      keyed = keyed-push table c.as_str.result definition c.insert.new.self.entries invariant.keyed
          c.as_str.ensures.text c.args.self.now c.self.view_is c.requires inserted;
      words = c.saturating_add-self-inside.ensures
          ∙ words-push table c.as_str.result definition c.insert.new.self.entries invariant.keyed c.as_str.ensures.text
          c.args.self.now c.self.view_is c.requires inserted
          c.self.inside.words c.from-2.result invariant.words (c.from-2.ensures ∙ c.words.ensures);
      locks = c.with_locks-self-inside.ensures
          ∙ locks-push table c.as_str.result definition c.insert.new.self.entries invariant.keyed c.as_str.ensures.text
          c.args.self.now c.self.view_is c.requires inserted
          c.self.inside.locks invariant.locks;
    }

pub returns : goal.returns
returns c =
    let definition : Definition =
    record { decl = c.args.decl; unit = c.args.unit; place = c.args.place; word = c.min.result } in
    shown-push c.self.inside.table c.as_str.result definition c.insert.new.self.entries c.self.invariant.keyed
    c.as_str.ensures.text c.args.self.now c.self.view_is c.requires c.in_ok-insert.ensures.entries
    ∙ ap (λ word. c.args.self.now ++ record {
      decl = c.args.decl.now;
      unit = c.args.unit;
      place = c.args.place;
      word =
          word;
    } ∷ [])
    (min_min (words_of (decls_in c.args.self.now)) c.self.inside.words c.from.result c.min.result
    (c.self.invariant.words ∙ ap (λ found. min (words_of (decls_in found)) (2 ^ 64 - 1)) c.self.view_is)
    c.from.ensures c.min.ensures)
