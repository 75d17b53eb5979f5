-- What the commands and the clock make of a controller's settings and of the turns of its advertising, and the controller with other ones.
-- Assumes nothing.
use Rattle.std.specs.Prelude.{Bool, []}
use Rattle.model.specs.Octets.{Octets}
use Rattle.model.specs.Advertising.{no_schedule}
use Rattle.model.specs.State.{Controller, settings_of, with_host, with_schedule}
use Rattle.model.specs.declared.Timer.{Timer}
use Rattle.model.specs.declared.Schedule.{Schedule}
use Rattle.model.specs.declared.Settings.{Settings}
use Rattle.model.specs.Rules.{RadioRule}

-- the controller with other settings: the same hardware, name, tables and advertising
unfoldable pub with_settings : Controller → Settings → Controller
with_settings c m = record {
  radio = record {
    hardware = c.radio.hardware;
    powered = m.radio.powered;
    connectable = m.radio.connectable;
    bredr = m.radio.bredr;
    low_energy = m.radio.low_energy;
    static_address = m.radio.static_address;
  };
  host = record { settings = m.host; name = c.host.name; tables = c.host.tables; advertising = c.host.advertising };
}

-- the controller with other turns of its advertising: the data of the instances that went go with them
unfoldable pub with_turns : Controller → Schedule → Controller
with_turns c t = with_host c (with_schedule c.host t)

-- a controller with these settings and turns, and no name, no tables and no data
unfoldable pub controller_with : Settings → Schedule → Controller
controller_with m t = record {
  radio = m.radio;
  host = record { settings = m.host; name = []; tables = []; advertising = record { schedule = t; adv_data = []; scan_rsp = [] } };
}

-- a controller with these settings and nothing else
unfoldable pub controller_of : Settings → Controller
controller_of m = controller_with m no_schedule

-- what a settings command makes of the settings: its effect on a controller, seen in the settings alone
unfoldable pub settings_effect : RadioRule → Settings → Octets → Settings
settings_effect r m ps = settings_of (r.effect (controller_of m) ps)

-- what it makes of the turns: its effect on a controller, seen in them alone
unfoldable pub turns_effect : RadioRule → Settings → Schedule → Octets → Schedule
turns_effect r m t ps = (r.effect (controller_with m t) ps).host.advertising.schedule

-- the settings with another timer: Set Discoverable, and the clock
unfoldable pub settings_timer : Settings → Timer → Settings
settings_timer m t = record { radio = m.radio; host = record { timer = t; bondable = m.host.bondable } }

-- the settings with bondable on or off: Set Bondable
unfoldable pub settings_bondable : Settings → Bool → Settings
settings_bondable m b = record { radio = m.radio; host = record { timer = m.host.timer; bondable = b } }
