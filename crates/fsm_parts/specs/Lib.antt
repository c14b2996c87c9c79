pub mod SignalTable
