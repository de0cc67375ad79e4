pub mod OnePush
