-- The accepted body of the lock object, at the places 0 to 7 of an image.
use Rattle.std.specs.Prelude.{◌≡◌, ℕ, ◌<◌, slice_get, length}
use Rattle.cas_asm.specs.declared.image.Image.{Image}
use Rattle.cas_asm.specs.declared.effect.Location.{Location}
use Rattle.cas_asm.specs.Links.{in_image}
use Rattle.cas_asm.specs.Effect.{location_of}
use Rattle.cas_lock.specs.Accepted.{word, accepted_code}

-- [eax]
abbrev pub at_eax : Location
at_eax = location_of in_image word

-- the image's code begins with the accepted body
pub record HasObject (m : Image) : Type 0 where
  pub short : length m.code < 4294967295
  pub each : (place : ℕ) → place < 8 → slice_get m.code place ≡ slice_get accepted_code place
