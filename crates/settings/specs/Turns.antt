-- What a settings command that acts makes of the turns of the advertising, seen in the settings before and after; its reply, and its controller.
-- Assumes nothing.
use Rattle.std.specs.Prelude.{ℕ, true, false, ◌++◌}
use Rattle.model.specs.declared.RadioSettings.{RadioSettings}
use Rattle.model.specs.declared.Schedule.{Schedule}
use Rattle.model.specs.declared.Settings.{Settings}
use Rattle.model.specs.Octets.{Octets}
use Rattle.model.specs.Advertising.{instances, no_schedule, removed_of, repowered}
use Rattle.model.specs.State.{Controller, current_settings}
use Rattle.layout.specs.Places.{controller_of}
use Rattle.replies.specs.Frames.{settings_reply}
use Rattle.rules.specs.Effects.{with_settings, with_turns}

-- no instance is left without Low Energy; else the turns go by power before and after
unfoldable pub turns_after : (old new : RadioSettings) → Schedule → Schedule
turns_after old new t = elim new.low_energy [ true ↦ repowered new.powered old.powered t | false ↦ no_schedule ]

-- the turns of the controller at index i of the state s
abbrev pub schedule_of : Octets → ℕ → Schedule
schedule_of s i = (controller_of s i).host.advertising.schedule

-- the reply, with New Settings if they changed, and behind it Advertising Removed for each instance that went
unfoldable pub acted_reply : ℕ → ℕ → (old new : Settings) → Schedule → Octets
acted_reply i code old new t =
    settings_reply i code (current_settings old) (current_settings new) ++ removed_of i t (turns_after old.radio new.radio t) instances

-- the controller with the settings `new` and the turns that they leave
unfoldable pub acted_controller : Controller → (old new : Settings) → Controller
acted_controller c old new = with_turns (with_settings c new) (turns_after old.radio new.radio c.host.advertising.schedule)
