use Rattle.std.proofs.Common.{◌++◌, length, leb, ap, refl, sym, arith}
use Rattle.cas_type.proofs.Locals_named.{no_parameter}
use Rattle.cas_type.proofs.locals.Locals.push_parameters.Goals as goal

pub loop-left-init : goal.loop-left-init
loop-left-init c =
    let params = c.args.params.now in
    let tys = c.args.tys.now in
    record {
      of_params = omega (arith, c.min-left.ensures);
      of_tys = omega (arith, c.min-left.ensures);
      pushed = ap (λ vs. vs ++ c.args.self.now)
          (sym (no_parameter c.min-left.result params tys c.min-left.ensures (leb (length params) (length tys)) refl));
    }
