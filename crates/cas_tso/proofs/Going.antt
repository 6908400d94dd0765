-- What a thread may do at its next instruction, from what that asks.
use Rattle.std.proofs.Common.{◌≡◌, ℕ, Some, None, subst}
use Rattle.cas_asm.specs.Ask.{ask_of}
use Rattle.cas_asm.specs.declared.ask.Ask.{Ask}
use Rattle.cas_asm.specs.declared.ask.Ask.TheVariants as ask
use Rattle.cas_asm.specs.declared.image.Image.{Image}
use Rattle.cas_tso.specs.Asking.{IsSettled, Follows}
use Rattle.cas_tso.specs.State.{Thread}
use Rattle.cas_tso.specs.Step.{IsPlain, stop_of}
use Rattle.cas_tso.specs.declared.options.Options.{Options}
use Rattle.cas_tso.proofs.Asking.{asks_follow}

settled_plain : (o : Options) (c : Thread) (a : Ask) → IsSettled a → stop_of o c a ≡ None → IsPlain a
settled_plain o c ask.Plain h e = tt
settled_plain o c (ask.Load k) h e = absurd h
settled_plain o c (ask.Store k v) h e = absurd h
settled_plain o c (ask.LockedDec k) h e = absurd h
settled_plain o c (ask.Out v) h e = absurd h
settled_plain o c ask.Finish h e = tt
settled_plain o c ask.Stack h e = cc
settled_plain o c (ask.Bad why) h e = cc

-- after a load an instruction that doesn't end its thread asks nothing more
pub plain_after : (m : Image) (o : Options) (c : Thread) (at word : ℕ) → ask_of m c.cpu None ≡ ask.Load at →
    stop_of o c (ask_of m c.cpu (Some word)) ≡ None → IsPlain (ask_of m c.cpu (Some word))
plain_after m o c at word e h =
    settled_plain o c (ask_of m c.cpu (Some word)) (subst (λ (a : Ask). Follows a (ask_of m c.cpu (Some word))) e
    (asks_follow m c.cpu word)) h
