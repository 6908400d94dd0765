-- An image's stacks end within words, where their size is one that a command takes.
use Rattle.std.proofs.Common.{ℕ, ◌+◌, ◌*◌, ◌<◌, ◌≤◌, length, arith}
use Rattle.std.proofs.Math.Nat.{le_trans, mul-le-mul_left, mul-le-mul_right}
use Rattle.cas_asm.specs.Start.{stack_of}
use Rattle.cas_tso.specs.State.{Setup}
use Rattle.cas_refine.specs.Listing.{HasRoom}

within : (x : ℕ) → x ≤ 272629760 → 268435456 + x + 4 < 4294967296
within x most = omega (arith, most)

stacks_end : (n s : ℕ) → n ≤ 64 → s ≤ 1048576 → stack_of (n + 1) s + 4 < 4294967296
stacks_end n s few short =
    let one_more : n + 1 ≤ 65 = omega (arith, few) in
    let rows : (n + 1) * 4 ≤ 65 * 4 = mul-le-mul_right 4 one_more in
    let all : (n + 1) * 4 * s ≤ 65 * 4 * s = mul-le-mul_right s rows in
    let most : 65 * 4 * s ≤ 65 * 4 * 1048576 = mul-le-mul_left (65 * 4) short in
    within ((n + 1) * 4 * s) (le_trans all most)

pub has_room : (p : Setup) → p.options.stack ≤ 1048576 → HasRoom p
has_room p short =
    let few : length p.image.entries ≤ 64 = p.image.threads in
    record {
      words = p.image.within_words;
      stacks = stacks_end (length p.image.entries) p.options.stack few short;
      threads = omega (arith, few);
    }
