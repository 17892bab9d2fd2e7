mod Addresses
